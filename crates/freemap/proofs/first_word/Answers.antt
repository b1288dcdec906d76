use borrow.Author.Rules.{rules}
use mathlib.Core.Path.{◌≡◌, refl, sym, ap, ◌∙◌}
use Prim.Native.Nat.{◌+◌, ◌*◌, ◌/◌, ◌<◌}
use native.Mathlib.Omega.{arith}
use mir.Syntax.{w64}
use mir.Val.{Fits}
use lib.ListN.{get_or}
use Rattle.freemap.specs.Map.{first_from}
use Rattle.freemap.proofs.First.{from_zero, from_set, from_past, whole}
use Rattle.freemap.proofs.first_word.Goals as goal

pub loop-j-init : goal.loop-j-init
loop-j-init c = refl

pub returns-then-w-ne0 : goal.returns-then-w-ne0
returns-then-w-ne0 c =
    let l = c.loop-j in
    let ws = c.args.words in
    let less : 64 * l.j < 2048 = omega arith in
    let fits : Fits w64 (get_or ws (64 * l.j / 64) 0) = search (rules, c.well_formed) in
    from_set ws (64 * l.j) (get_or ws l.j 0) less (whole ws l.j) fits.fits (omega (arith, c.if-w-ne0.true)) ∙ l.invariant

pub loop-j-preserved : goal.loop-j-preserved
loop-j-preserved c =
    let l = c.loop-j in
    let ws = c.args.words in
    let less : 64 * l.j < 2048 = omega arith in
    let e : 64 * (l.j + 1) ≡ 64 * (64 * l.j / 64 + 1) = omega arith in
    ap (first_from ws) e ∙ from_zero ws (64 * l.j) (get_or ws l.j 0) less (whole ws l.j) c.if-w-ne0.false ∙ l.invariant

pub returns : goal.returns
returns c =
    let l = c.loop-j in
    let ws = c.args.words in
    sym (from_past ws (64 * l.j) (omega arith)) ∙ l.invariant
