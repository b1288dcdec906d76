use mathlib.Core.Path.{refl}
use Rattle.record.specs.Record.{number_at}
use Rattle.record.proofs.number_at.Goals as goal

pub returns : goal.returns
unfolding number_at
returns c = refl
