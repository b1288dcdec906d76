use Prim.Native.Nat.{◌≤◌}
use mathlib.Core.Path.{◌≡◌}
use mathlib.Core.List.{◌++◌}
use lib.ListN.{length, drop, replicate}
use Rattle.format.proofs.zero_crcs.Given as goal

abbrev pub invariant-loop-k : goal.invariant-loop-k
invariant-loop-k l = (l.k ≤ l.n) × (l.crcs ≡ replicate l.k 0xb2aa_7578 ++ drop l.k (replicate 24 0)) × (length l.crcs ≡ 24)
