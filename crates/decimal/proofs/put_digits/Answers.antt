use Prim.Native.Nat.{suc, ◌-◌, ◌≤◌, ◌<◌, ◌^◌}
use mathlib.Core.Path.{◌≡◌, ◌∙◌}
use native.Mathlib.Omega.{arith}
use lib.ListN.{length-set}
use Rattle.decimal.proofs.Texts.{two, fewer, digits_next}
use Rattle.decimal.proofs.put_digits.Goals as goal

pub loop-left-preserved : goal.loop-left-preserved
loop-left-preserved c =
    let l = c.loop-left in
    let more : 10 ≤ l.left = c.loop-left-test.true in
    let next : l.i ≡ suc (l.i - 1) = omega arith in
    let most : l.left < 10 ^ suc (l.i - 1) = rw (← next) l.invariant.3 in (
      simp length-set l.invariant.0,
      two (l.i - 1) l.left more most,
      omega arith,
      fewer (l.i - 1) l.left most,
      digits_next l.digits l.i (l.i - 1) l.left next (omega arith) more ∙ l.invariant.4,
    )
