use mathlib.Core.Path.{refl}
use Rattle.le.specs.Part.{zeros}
use Rattle.remove.proofs.none_gone.Goals as goal

pub returns : goal.returns
unfolding zeros
returns c = refl
