use Prim.Native.Nat.{ℕ, ◌+◌, ◌<◌}
use mathlib.Core.Path.{◌≡◌, refl, ap, ◌∙◌}
use mathlib.Core.List.{List}
use native.Mathlib.Omega.{arith}
use borrow.Author.Rules.{rules}
use lib.ListN.{length, length-set, set, get_or}
use lib.Seq.{paste, paste-zero}
use Rattle.runs.proofs.Runs.{copy_more, copy_all}
use Rattle.runs.proofs.put_bytes.Goals as goal

pub loop-i-preserved : goal.loop-i-preserved
loop-i-preserved c =
    let l = c.loop-i in
    let src = c.args.src.now in
    let k : l.i < length src = omega arith in (
      omega arith,
      refl,
      simp length-set l.invariant.2,
      ap (λ (d : List ℕ). set d (c.args.at + l.i) (get_or src l.i 0)) l.invariant.3 ∙ copy_more c.args.dst.now src c.args.at l.i c.requires k,
    )

pub returns : goal.returns
returns c =
    let l = c.loop-i in
    let a = c.args in
    let e : l.i ≡ length a.src.now = omega arith in
    l.invariant.3 ∙ ap (λ (k : ℕ). paste a.dst.now a.at a.src.now k) e ∙ copy_all a.dst.now a.src.now a.at
