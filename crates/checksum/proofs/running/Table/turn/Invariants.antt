use Prim.Native.Nat.{ℕ, ◌≤◌, ◌<◌}
use mathlib.Core.Path.{◌≡◌}
use lib.ListN.{length, get_or}
use Rattle.checksum.specs.Crc.{byte_step}
use Rattle.checksum.specs.Lanes.{lane_byte}
use Rattle.checksum.proofs.running.Table.turn.Given as goal

abbrev pub invariant-loop-j : goal.invariant-loop-j
invariant-loop-j l =
    (l.j ≤ 8)
    × (length l.lanes ≡ 8)
    × ((k : ℕ) → k < l.j → get_or l.lanes k 0 ≡ byte_step (get_or l.initial.lanes k 0) (lane_byte l.part l.i k))
    × ((k : ℕ) → l.j ≤ k → get_or l.lanes k 0 ≡ get_or l.initial.lanes k 0)
