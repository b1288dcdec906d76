use Rattle.header.proofs.codec.bare.Goals as goal

pub returns : goal.returns
returns c = rw c.blank-head.ensures
