use mathlib.Core.Path.{◌≡◌}
use mathlib.Core.List.{◌∷◌}
use lib.ListN.{drop}
use Rattle.checksum.specs.Lanes.{joined}
use Rattle.checksum.proofs.running.join.Given as goal

abbrev pub invariant-loop-lane : goal.invariant-loop-lane
invariant-loop-lane l = joined (l.c ∷ drop l.lane-index l.lane-items) ≡ joined l.fn.lanes
