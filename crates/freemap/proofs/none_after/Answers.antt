use mathlib.Core.Path.{◌≡◌, refl, sym, ap, ◌∙◌}
use mathlib.Core.Bool.{Bool, ◌&&◌, and-true, and_assoc}
use Prim.Native.Nat.{ℕ, ◌+◌, ◌*◌, ◌/◌, ◌<◌}
use native.Mathlib.Omega.{arith}
use borrow.Author.Tests.{eq-eqb}
use lib.Dec.{eqb}
use lib.ListN.{get_or}
use Rattle.freemap.specs.Map.{first_from}
use Rattle.freemap.proofs.First.{from_word, from_past, whole}
use Rattle.freemap.proofs.none_after.Goals as goal

pub loop-j-init : goal.loop-j-init
loop-j-init c = refl

pub loop-j-preserved : goal.loop-j-preserved
loop-j-preserved c =
    let l = c.loop-j in
    let ws = c.args.words.now in
    let w = get_or ws l.j 0 in
    let less : 64 * l.j < 2048 = omega arith in
    let e : 64 * (64 * l.j / 64 + 1) ≡ 64 * (l.j + 1) = omega arith in
    let here : eqb (first_from ws (64 * l.j)) 2048 ≡ (eqb w 0 && eqb (first_from ws (64 * (l.j + 1))) 2048)
    = from_word ws (64 * l.j) w less (whole ws l.j) (c.shared_slice_known-1.given (64 * l.j / 64)).fits ∙ ap (λ (n : ℕ). eqb w 0 && eqb (first_from ws n) 2048) e in
    and_assoc l.none (eqb w 0) (eqb (first_from ws (64 * (l.j + 1))) 2048) ∙ ap (λ (t : Bool). l.none && t) (sym here) ∙ l.invariant

pub returns : goal.returns
returns c =
    let l = c.loop-j in
    let ws = c.args.words.now in
    sym (sym l.invariant ∙ ap (λ (t : Bool). l.none && t) (eq-eqb (first_from ws (64 * l.j)) 2048 (from_past ws (64 * l.j) (omega arith))) ∙ and-true l.none)
