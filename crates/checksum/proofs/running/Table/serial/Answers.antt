use mathlib.Core.Path.{refl, ap, ◌∙◌}
use native.Mathlib.Omega.{arith}
use lib.Seq.{take_all}
use Rattle.checksum.specs.Crc.{crc_from}
use Rattle.checksum.proofs.Lanes.{byte_after}
use Rattle.checksum.proofs.running.Table.serial.Goals as goal

pub loop-b-init : goal.loop-b-init
unfolding crc_from
loop-b-init c = (omega arith, refl)

pub loop-b-preserved : goal.loop-b-preserved
loop-b-preserved c =
    let a = c.args in
    let l = c.loop-b in
    (omega arith, byte_after a.c 0 l.b-index l.b-index l.state c.byte_step-state.result a.bytes.now (omega arith) (omega arith) l.invariant.1 c.byte_step-state.ensures)
