use Rattle.header.proofs.no_copies.Goals as goal

pub returns : goal.returns
returns c = rw c.blank-head.ensures
