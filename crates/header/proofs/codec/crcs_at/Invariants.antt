use Prim.Native.Nat.{◌≤◌}
use mathlib.Core.Path.{◌≡◌}
use lib.ListN.{length}
use Rattle.header.specs.Header.{crcs_of}
use Rattle.header.proofs.codec.crcs_at.Given as goal

abbrev pub invariant-loop-k : goal.invariant-loop-k
invariant-loop-k l = (l.k ≤ l.n) × (l.crcs ≡ crcs_of l.k l.sector) × (length l.crcs ≡ 24)
