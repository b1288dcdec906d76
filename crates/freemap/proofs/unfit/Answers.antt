use mathlib.Core.Path.{refl}
use Rattle.le.specs.Part.{zeros}
use Rattle.freemap.specs.Map.{unfit_of}
use Rattle.freemap.proofs.unfit.Goals as goal

pub returns : goal.returns
unfolding unfit_of zeros
returns c = refl
