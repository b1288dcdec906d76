use mathlib.Core.Path.{refl}
use Rattle.handles.specs.Handles.{sane_of}
use Rattle.handles.proofs.sane.Goals as goal

pub returns : goal.returns
unfolding sane_of
returns c = refl
