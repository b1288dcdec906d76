use Rattle.std.proofs.Common.{ℕ, List, ap}
use mathlib.Core.Bool.{not}
use lib.Dec.{eqb}
use lib.ListN.{get_or}
use Rattle.le.specs.Part.{part}
use Rattle.bridge.specs.Numbers.{map_in}
use Rattle.bridge.proofs.numbers.map_in.Goals as goal

pub returns : goal.returns
unfolding map_in part
returns c = ap (λ (ws : List ℕ). record { fit = not (eqb (get_or c.args.w 10 0) 0); words = ws }) c.copy_from_slice.ensures.after
