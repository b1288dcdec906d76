use Prim.Native.Nat.{◌≤◌}
use mathlib.Core.Path.{◌≡◌}
use lib.ListN.{length, take}
use Rattle.checksum.specs.Crc.{crc_from}
use Rattle.checksum.proofs.running.Table.serial.Given as goal

abbrev pub invariant-loop-b : goal.invariant-loop-b
invariant-loop-b l = (l.b-index ≤ length l.bytes) × (l.state ≡ crc_from l.c (take l.b-index l.bytes))
