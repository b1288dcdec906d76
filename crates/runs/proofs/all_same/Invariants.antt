use Prim.Native.Nat.{◌≤◌}
use mathlib.Core.Path.{◌≡◌}
use mathlib.Core.Bool.{◌&&◌}
use lib.ListN.{length, drop}
use Rattle.runs.specs.Run.{all_same}
use Rattle.runs.proofs.all_same.Given as goal

abbrev pub invariant-loop-b : goal.invariant-loop-b
invariant-loop-b l = (l.b-index ≤ length l.bytes) × ((l.same && all_same l.byte (drop l.b-index l.bytes)) ≡ all_same l.byte l.bytes)
