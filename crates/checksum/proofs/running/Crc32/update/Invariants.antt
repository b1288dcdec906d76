use mathlib.Core.Path.{◌≡◌}
use lib.ListN.{length}
use Rattle.checksum.specs.Crc.{crc_from}
use Rattle.checksum.proofs.running.Crc32.update.Given as goal

abbrev pub invariant-loop-part : goal.invariant-loop-part
invariant-loop-part l = crc_from l.c l.rest ≡ crc_from l.initial.c l.initial.rest

abbrev pub decreases-loop-part : goal.decreases-loop-part
decreases-loop-part l = length l.rest
