use Rattle.plan.specs.Edit.{head_after}
use Rattle.plan.proofs.head_after.Goals as goal

pub returns : goal.returns
unfolding head_after
returns c = cc
