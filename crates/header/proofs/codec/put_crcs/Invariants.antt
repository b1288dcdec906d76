use Prim.Native.Nat.{◌≤◌}
use mathlib.Core.Path.{◌≡◌}
use lib.ListN.{length, take}
use Rattle.le.specs.Part.{over}
use Rattle.header.specs.Header.{words}
use Rattle.header.proofs.codec.put_crcs.Given as goal

abbrev pub invariant-loop-k : goal.invariant-loop-k
invariant-loop-k l = (l.k ≤ l.n) × (l.sector ≡ over 64 (words (take l.k l.head.crcs)) l.initial.sector) × (length l.sector ≡ 512)
