-- Words with one bit put: as they were where it is so already, else with that bit turned. Assumes nothing.
use mathlib.Core.Path.{◌≡◌, refl, sym, ap, ◌∙◌, subst}
use mathlib.Core.Bool.{Bool, true, false, not, beq}
use mathlib.Core.List.{List}
use Prim.Native.Nat.{ℕ, ◌/◌, ◌%◌, ◌^◌, ◌<◌}
use native.Mathlib.Omega.{arith}
use borrow.Author.Tests.{eqb-true, eqb-false}
use lib.Bits.{bit_xor, xor_lt}
use lib.Dec.{eqb}
use lib.ListN.{length, get_or, set, length-set}
use lib.Pow.{pow-lt}
use lib.Seq.{get_or-set_same, get_or-set_other}
use Rattle.le.specs.Choice.{pick}
use Rattle.le.proofs.Choices.{pick_keeps_by}
use Rattle.freemap.specs.Map.{marks, put_of}
use Rattle.freemap.proofs.Digits.{digit, turn_here, turn_other}
use Rattle.freemap.proofs.Words.{words_told}

-- what the test of a bit against the one that is put tells
pub beq_true : (a b : Bool) → beq a b ≡ true → a ≡ b
beq_true true true e = refl
beq_true true false e = sym e
beq_true false true e = e
beq_true false false e = refl

pub beq_false : (a b : Bool) → beq a b ≡ false → not a ≡ b
beq_false true true e = sym e
beq_false true false e = refl
beq_false false true e = refl
beq_false false false e = e

module _ (ws : List ℕ) (c : ℕ) (b : Bool) (long : length ws ≡ 32) (fits : (j : ℕ) → get_or ws j 0 < 2 ^ 64) where
  pub put_same : marks ws c ≡ b → ws ≡ put_of ws c b
  put_same m =
      words_told ws (λ d. pick (eqb d c) b (marks ws d)) long fits
      (λ d q. pick_keeps_by (λ (x : Bool). marks ws d ≡ x) (eqb d c) b (marks ws d) (λ e. ap (marks ws) (eqb-true d c e) ∙ m) (λ e. refl))

  module _ (inside : c < 2048) where
    abbrev word : ℕ
    word = bit_xor (get_or ws (c / 64) 0) (2 ^ (c % 64))

    abbrev turned : List ℕ
    turned = set ws (c / 64) word

    turned_word : get_or turned (c / 64) 0 ≡ word
    turned_word = get_or-set_same ws (c / 64) word 0 (omega (arith, long, inside))

    turned_fits : (j : ℕ) → get_or turned j 0 < 2 ^ 64
    turned_fits j = go (eqb j (c / 64)) refl
      where
        go : (t : Bool) → eqb j (c / 64) ≡ t → get_or turned j 0 < 2 ^ 64
        go true e =
            subst (λ (x : ℕ). x < 2 ^ 64) (sym (ap (λ (k : ℕ). get_or turned k 0) (eqb-true j (c / 64) e) ∙ turned_word))
            (xor_lt 64 (get_or ws (c / 64) 0) (2 ^ (c % 64)) (fits (c / 64)) (pow-lt {i = c % 64} {j = 64} (omega arith)))
        go false e = subst (λ (x : ℕ). x < 2 ^ 64) (sym (get_or-set_other ws (c / 64) j word 0 (eqb-false j (c / 64) e))) (fits j)

    turned_here : marks turned c ≡ not (marks ws c)
    unfolding marks
    turned_here = ap (λ (x : ℕ). eqb (digit x (c % 64)) 1) turned_word ∙ turn_here (get_or ws (c / 64) 0) (c % 64)

    turned_other : (d : ℕ) → (d ≡ c → ⊥) → marks turned d ≡ marks ws d
    unfolding marks
    turned_other d h = ap (λ (n : ℕ). eqb n 1) (go (eqb (d / 64) (c / 64)) refl)
      where
        go : (t : Bool) → eqb (d / 64) (c / 64) ≡ t → digit (get_or turned (d / 64) 0) (d % 64) ≡ digit (get_or ws (d / 64) 0) (d % 64)
        go true e =
            let q : d / 64 ≡ c / 64 = eqb-true (d / 64) (c / 64) e in
            let n : d % 64 ≡ c % 64 → ⊥ = λ r. h (omega arith) in
            ap (λ (x : ℕ). digit (get_or turned x 0) (d % 64)) q ∙ ap (λ (x : ℕ). digit x (d % 64)) turned_word
            ∙ turn_other (get_or ws (c / 64) 0) (c % 64) (d % 64) n ∙ ap (λ (x : ℕ). digit (get_or ws x 0) (d % 64)) (sym q)
        go false e = ap (λ (x : ℕ). digit x (d % 64)) (get_or-set_other ws (c / 64) (d / 64) word 0 (eqb-false (d / 64) (c / 64) e))

    pub put_turned : not (marks ws c) ≡ b → turned ≡ put_of ws c b
    put_turned m =
        words_told turned (λ d. pick (eqb d c) b (marks ws d)) (length-set ws (c / 64) word ∙ long) turned_fits
        (λ d q. pick_keeps_by (λ (x : Bool). marks turned d ≡ x) (eqb d c) b (marks ws d)
        (λ e. ap (marks turned) (eqb-true d c e) ∙ turned_here ∙ m) (λ e. turned_other d (eqb-false d c e)))
