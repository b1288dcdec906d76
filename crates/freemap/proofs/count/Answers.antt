use borrow.Author.Rules.{rules}
use mathlib.Core.Path.{◌≡◌, sym, ap, ◌∙◌}
use Prim.Native.Nat.{ℕ, ◌+◌, ◌*◌}
use native.Mathlib.Omega.{arith}
use mir.Syntax.{w64}
use mir.Val.{Fits}
use lib.Count.{ones, ones-le}
use lib.ListN.{get_or}
use Rattle.le.specs.Tally.{tally}
use Rattle.le.proofs.Tallies.{tally_start, tally_le}
use Rattle.freemap.specs.Map.{marks}
use Rattle.freemap.proofs.Counts.{count_turn}
use Rattle.freemap.proofs.count.Goals as goal

pub loop-w-init : goal.loop-w-init
loop-w-init c = sym (tally_start _)

pub overflow_add-n : goal.overflow_add-n
overflow_add-n c =
    let l = c.loop-w in
    let ws = c.args.words in
    let fits : Fits w64 (get_or ws l.w-index 0) = search (rules, c.well_formed) in
    let most = ones-le 64 (get_or ws l.w-index 0) fits.fits in
    let all = tally_le (marks ws) (64 * l.w-index) in
    search (rules, most, all, l.invariant)

pub loop-w-preserved : goal.loop-w-preserved
loop-w-preserved c =
    let l = c.loop-w in
    let ws = c.args.words in
    let fits : Fits w64 (get_or ws l.w-index 0) = search (rules, c.well_formed) in
    ap (λ (n : ℕ). n + ones (get_or ws l.w-index 0)) l.invariant ∙ count_turn ws l.w-index fits.fits

pub returns : goal.returns
returns c =
    let l = c.loop-w in
    let e : 64 * l.w-index ≡ 2048 = omega arith in
    l.invariant ∙ ap (tally (marks c.args.words)) e
