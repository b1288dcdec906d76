use mathlib.Core.Path.{refl}
use Rattle.le.specs.Part.{zeros}
use Rattle.append.specs.Appender.{no_appender}
use Rattle.append.proofs.no_appender.Goals as goal

pub returns : goal.returns
unfolding no_appender zeros
returns c = refl
