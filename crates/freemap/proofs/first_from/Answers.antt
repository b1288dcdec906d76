use borrow.Author.Rules.{rules}
use mathlib.Core.Path.{◌≡◌, refl, sym, ◌∙◌}
use Prim.Native.Nat.{◌+◌, ◌*◌, ◌/◌}
use native.Mathlib.Omega.{arith}
use mir.Syntax.{w64}
use mir.Val.{Fits}
use lib.ListN.{get_or}
use Rattle.freemap.specs.Map.{first_from}
use Rattle.freemap.proofs.First.{from_zero, from_set, from_past}
use Rattle.freemap.proofs.first_from.Goals as goal

pub returns-then-from-ge2048 : goal.returns-then-from-ge2048
returns-then-from-ge2048 c = let a = c.args in sym (from_past a.words a.from c.if-from-ge2048.true)

pub returns-then-w-ne0 : goal.returns-then-w-ne0
returns-then-w-ne0 c =
    let a = c.args in
    let fits : Fits w64 (get_or a.words (a.from / 64) 0) = search (rules, c.well_formed) in
    from_set a.words a.from _ c.if-from-ge2048.false refl fits.fits (omega (arith, c.if-w-ne0.true))

pub returns : goal.returns
returns c =
    let a = c.args in
    let e : c.first_word.result ≡ first_from a.words (64 * (a.from / 64 + 1)) = c.first_word.ensures in
    e ∙ from_zero a.words a.from _ c.if-from-ge2048.false refl c.if-w-ne0.false
