use mathlib.Core.Path.{◌∙◌}
use Rattle.checksum.proofs.Lanes.{part_first}
use Rattle.checksum.proofs.running.Crc32.update.Goals as goal

pub loop-part-preserved : goal.loop-part-preserved
loop-part-preserved c =
    let e = c.in-Some.ensures.cases in
    rw (c.block-c.ensures, e.0, e.1) (part_first c.loop-part.c 504 _) ∙ c.loop-part.invariant
