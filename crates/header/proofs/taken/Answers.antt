use Rattle.header.specs.Copies.{taken_of}
use Rattle.header.proofs.taken.Goals as goal

pub returns : goal.returns
unfolding taken_of
returns c = rw c.same_store-same.ensures
