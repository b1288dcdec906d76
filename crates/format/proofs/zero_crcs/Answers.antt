use Prim.Native.Nat.{ℕ}
use mathlib.Core.Path.{◌≡◌, refl, sym, ap, ◌∙◌}
use mathlib.Core.List.{List}
use native.Mathlib.Omega.{arith}
use borrow.Author.Fill.{fill_more}
use lib.ListN.{set, replicate, length-set}
use Rattle.le.specs.Part.{zeros}
use Rattle.checksum.proofs.Vector.{zeros_value}
use Rattle.format.proofs.Crcs.{filled}
use Rattle.format.proofs.zero_crcs.Goals as goal

pub loop-k-init : goal.loop-k-init
loop-k-init c = (omega arith, refl, refl)

pub loop-k-preserved : goal.loop-k-preserved
loop-k-preserved c =
    let l = c.loop-k in
    (omega arith, ap (λ (x : List ℕ). set x l.k _) l.invariant.1 ∙ fill_more l.k _ (replicate 24 0) (omega arith), simp length-set l.invariant.2)

pub returns : goal.returns
unfolding zeros
returns c =
    let l = c.loop-k in
    let n = c.args.n in
    let e : l.k ≡ n = omega arith in
    filled n c.requires (sym zeros_value) (rw e at l.invariant.1)
