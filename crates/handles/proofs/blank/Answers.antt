use mathlib.Core.Path.{refl}
use Rattle.le.specs.Part.{zeros}
use Rattle.handles.specs.Handles.{blank_of}
use Rattle.handles.proofs.blank.Goals as goal

pub returns : goal.returns
unfolding blank_of zeros
returns c = refl
