use Rattle.commit.specs.Commit.{same_head}
use Rattle.commit.proofs.same_head.Goals as goal

pub returns : goal.returns
unfolding same_head
returns c = rw c.same_crcs.ensures
