use Prim.Native.Nat.{◌+◌, ◌-◌}
use mathlib.Core.Path.{◌≡◌}
use native.Mathlib.Omega.{arith}
use Rattle.checksum.proofs.Moved.{move_start, move_turn, move_end}
use Rattle.checksum.proofs.running.moved.Goals as goal

pub loop-n-init : goal.loop-n-init
loop-n-init c = (omega arith, move_start c.args.x (omega arith))

pub loop-n-preserved : goal.loop-n-preserved
loop-n-preserved c =
    let l = c.loop-n in
    let x = c.args.x in
    let next : 32 - (l.n + 1) ≡ 31 - l.n = omega arith in
    (omega arith, rw next (move_turn x (32 - l.n) (31 - l.n) l.sum l.k c.bit_step-k.result (omega arith) (omega arith) c.bit_step-k.ensures l.invariant.1))

pub returns : goal.returns
returns c =
    let l = c.loop-n in
    move_end c.args.x (32 - l.n) l.sum l.k (omega arith) l.invariant.1
