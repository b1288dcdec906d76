use mathlib.Core.Path.{◌≡◌}
use Prim.Native.Nat.{◌≤◌}
use lib.ListN.{length}
use lib.Seq.{paste}
use Rattle.le.specs.Part.{zeros}
use Rattle.store.proofs.clear_counts.Given as goal

abbrev pub invariant-loop-i : goal.invariant-loop-i
invariant-loop-i l = (l.i ≤ 64) × (length l.counts ≡ length l.initial.counts) × (l.counts ≡ paste l.initial.counts 0 (zeros 64) l.i)
