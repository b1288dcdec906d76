use mathlib.Core.Path.{refl}
use Rattle.header.specs.Copies.{same_store}
use Rattle.header.proofs.same_store.Goals as goal

pub returns : goal.returns
unfolding same_store
returns c = refl
