use Rattle.le.specs.Choice.{pick}
use Rattle.plan.proofs.edited.Goals as goal

pub returns-then-changing : goal.returns-then-changing
unfolding pick
returns-then-changing c = rw c.if-changing.true c.apply.ensures

pub returns-else-changing : goal.returns-else-changing
unfolding pick
returns-else-changing c = rw c.if-changing.false
