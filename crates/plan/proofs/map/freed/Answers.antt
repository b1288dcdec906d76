use borrow.Author.Rules.{rules}
use Prim.Native.Nat.{ℕ, ◌^◌, ◌<◌}
use mathlib.Core.Path.{◌≡◌, refl, ap, ◌∙◌}
use lib.ListN.{length, get_or}
use mir.Syntax.{w64}
use mir.Val.{Fits}
use native.Mathlib.Omega.{arith}
use Rattle.freemap.specs.Map.{marks, words_of}
use Rattle.freemap.proofs.Words.{words_told}
use Rattle.freemap.proofs.Upto.{upto, upto_none, upto_step}
use Rattle.table.specs.Link.{link_part, owned_by}
use Rattle.plan.proofs.Maps.{fitted}
use Rattle.plan.proofs.map.freed.Goals as goal

pub loop-c-init : goal.loop-c-init
loop-c-init c =
    let ws = c.args.store.free.words in
    let n : length ws ≡ 32 = search (rules, c.words-1.given) in
    let fits : (j : ℕ) → get_or ws j 0 < 2 ^ 64 = λ j. (let f : Fits w64 (get_or ws j 0) = search (rules, c.words-1.given) in f.fits) in
    (words_told ws (marks ws) n fits (λ d q. refl) ∙ upto_none (marks ws) _, omega arith)

pub loop-c-preserved : goal.loop-c-preserved
loop-c-preserved c =
    let l = c.loop-c in
    let a = c.args in
    (upto_step (marks a.store.free.words) (λ d. owned_by a.slot (link_part a.volume.now a.store d)) l.c l.invariant.0 c.free_link.ensures, omega arith)

pub returns : goal.returns
returns c =
    let l = c.loop-c in
    let a = c.args in
    let e : l.c ≡ a.store.head.chunks = omega (arith, l.invariant.1) in
    ap fitted (l.invariant.0 ∙ ap (λ (n : ℕ). words_of (upto (marks a.store.free.words) (λ d. owned_by a.slot (link_part a.volume.now a.store d)) n)) e)
