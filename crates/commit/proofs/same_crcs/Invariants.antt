use Prim.Native.Nat.{◌≤◌}
use mathlib.Core.Path.{◌≡◌}
use lib.ListN.{drop}
use Rattle.runs.specs.Run.{same_bytes}
use Rattle.commit.proofs.same_crcs.Given as goal

abbrev pub invariant-loop-i : goal.invariant-loop-i
invariant-loop-i l = (l.i ≤ 24) × (same_bytes (drop l.i l.a) (drop l.i l.b) ≡ same_bytes l.a l.b)
