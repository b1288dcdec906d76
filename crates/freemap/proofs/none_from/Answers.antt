use mathlib.Core.Path.{refl, sym, ap, ◌∙◌}
use mathlib.Core.Bool.{Bool, ◌&&◌}
use Prim.Native.Nat.{◌+◌, ◌*◌, ◌/◌, ◌%◌, ◌^◌}
use borrow.Author.Tests.{eq-eqb, ne_eqb}
use lib.Dec.{eqb}
use lib.ListN.{get_or}
use Rattle.freemap.specs.Map.{first_from}
use Rattle.freemap.proofs.First.{from_word, from_past}
use Rattle.freemap.proofs.none_from.Goals as goal

pub returns-then-from-ge2048 : goal.returns-then-from-ge2048
returns-then-from-ge2048 c = let a = c.args in sym (eq-eqb _ 2048 (from_past a.words.now a.from c.if-from-ge2048.true))

pub returns-then-w-ne0 : goal.returns-then-w-ne0
returns-then-w-ne0 c =
    let a = c.args in
    let ws = a.words.now in
    let x = get_or ws (a.from / 64) 0 / 2 ^ (a.from % 64) in
    let here = from_word ws a.from x c.if-from-ge2048.false refl (c.shared_slice_known-1.given (a.from / 64)).fits in
    sym (here ∙ ap (λ (t : Bool). t && eqb (first_from ws (64 * (a.from / 64 + 1))) 2048) (ne_eqb x 0 c.if-w-ne0.true))

pub returns : goal.returns
returns c =
    let a = c.args in
    let ws = a.words.now in
    let x = get_or ws (a.from / 64) 0 / 2 ^ (a.from % 64) in
    let here = from_word ws a.from x c.if-from-ge2048.false refl (c.shared_slice_known-1.given (a.from / 64)).fits in
    c.none_after.ensures ∙ sym (here ∙ ap (λ (t : Bool). t && eqb (first_from ws (64 * (a.from / 64 + 1))) 2048) (eq-eqb x 0 c.if-w-ne0.false))
