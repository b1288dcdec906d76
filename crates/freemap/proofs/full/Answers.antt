use mathlib.Core.Path.{◌≡◌, refl, ap, ◌∙◌}
use mathlib.Core.Bool.{true, false}
use mathlib.Core.List.{List}
use Prim.Native.Nat.{ℕ}
use native.Mathlib.Omega.{arith}
use lib.Dec.{ltb}
use Rattle.le.specs.Part.{zeros}
use Rattle.freemap.specs.Map.{words_of, put_of}
use Rattle.freemap.proofs.Words.{zeros_words}
use Rattle.freemap.proofs.Upto.{upto_none, upto_more, upto_all}
use Rattle.freemap.proofs.full.Goals as goal

pub loop-c-init : goal.loop-c-init
unfolding zeros
loop-c-init c = (omega arith, zeros_words ∙ upto_none (λ d. false) (λ d. true))

pub loop-c-preserved : goal.loop-c-preserved
loop-c-preserved c =
    let l = c.loop-c in
    let e : c.put.new.words ≡ put_of l.words l.c true = c.put.ensures in
    (omega arith, e ∙ ap (λ (ws : List ℕ). put_of ws l.c true) l.invariant.1 ∙ upto_more (λ d. false) (λ d. true) l.c refl)

pub returns : goal.returns
returns c =
    let l = c.loop-c in
    let e : l.c ≡ c.args.chunks = omega arith in
    ap (λ (ws : List ℕ). record { fit = true; words = ws }) (l.invariant.1 ∙ upto_all l.c ∙ ap (λ (n : ℕ). words_of (λ d. ltb d n)) e)
