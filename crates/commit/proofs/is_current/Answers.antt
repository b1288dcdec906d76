use Rattle.commit.specs.Commit.{is_current}
use Rattle.commit.proofs.is_current.Goals as goal

pub returns : goal.returns
unfolding is_current
returns c = rw c.same_head.ensures
