use Prim.Native.Nat.{◌+◌, ◌*◌}
use mathlib.Core.Path.{refl, ◌∙◌}
use native.Mathlib.Omega.{arith}
use lib.ListN.{get_or}
use Rattle.checksum.specs.Crc.{crc_from}
use Rattle.checksum.proofs.Lanes.{byte_after, lanes_end}
use Rattle.checksum.proofs.running.Table.block.Goals as goal

pub loop-i-init : goal.loop-i-init
unfolding crc_from
loop-i-init c = (omega arith, refl, λ j h. refl)

pub loop-i-preserved : goal.loop-i-preserved
loop-i-preserved c =
    let a = c.args in
    let l = c.loop-i in
    let e = c.turn.ensures in
    (omega arith, c.turn.array_long, λ j h. byte_after _ (63 * j) l.i (l.i + 63 * j) (get_or l.lanes j 0) _ a.part.now (omega arith) (omega arith) (l.invariant.2 j h) (e j h))

pub returns : goal.returns
returns c =
    let a = c.args in
    let l = c.loop-i in
    c.join.ensures ∙ lanes_end a.c l.i l.lanes a.part.now l.invariant.1 (omega arith) (omega arith) l.invariant.2
