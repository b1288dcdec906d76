use Rattle.le.specs.Part.{zeros}
use Rattle.header.specs.Copies.{no_current}
use Rattle.header.proofs.no_current.Goals as goal

pub returns : goal.returns
unfolding no_current zeros
returns c = rw c.blank-head.ensures
