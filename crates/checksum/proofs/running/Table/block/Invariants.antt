use Prim.Native.Nat.{ℕ, ◌≤◌, ◌<◌, ◌*◌}
use mathlib.Core.Path.{◌≡◌}
use lib.ListN.{length, get_or, take, drop}
use Rattle.checksum.specs.Crc.{crc_from}
use Rattle.checksum.proofs.running.Table.block.Given as goal

abbrev pub invariant-loop-i : goal.invariant-loop-i
invariant-loop-i l = (l.i ≤ 63) × (length l.lanes ≡ 8) × ((j : ℕ) → j < 8 → get_or l.lanes j 0 ≡ crc_from (get_or l.initial.lanes j 0) (take l.i (drop (63 * j) l.part)))
