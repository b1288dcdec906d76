-- The count of set bits, a word at a time. Assumes nothing.
use mathlib.Core.Path.{◌≡◌, sym, ap, ap₂, ◌∙◌}
use mathlib.Core.Bool.{Bool, true, false}
use mathlib.Core.List.{List}
use Prim.Native.Nat.{ℕ, zero, suc, ◌+◌, ◌*◌, ◌/◌, ◌%◌, ◌^◌, ◌<◌}
use native.Mathlib.Nat.{add-zero, add-suc, mod-lt}
use native.Mathlib.Omega.{arith}
use lib.Count.{ones, ones_step}
use lib.Dec.{eqb}
use lib.ListN.{get_or}
use lib.Pow.{pow_pos}
use Rattle.le.specs.Choice.{pick}
use Rattle.le.specs.Tally.{tally}
use Rattle.le.proofs.Tallies.{tally_ext}
use Rattle.freemap.specs.Map.{marks}
use Rattle.freemap.proofs.Digits.{digit, digit_shr, digit_low, half_lt}
use Rattle.freemap.proofs.Words.{mark_at, bit_of}

pick_more : (b : Bool) (x y z : ℕ) → x ≡ y + z → pick b (x + 1) x ≡ y + pick b (z + 1) z
unfolding pick
pick_more true x y z e = omega (arith, e)
pick_more false x y z e = e

-- a count goes on from any number
tally_more : (f : ℕ → Bool) (a k : ℕ) → tally f (a + k) ≡ tally f a + tally (λ i. f (a + i)) k
unfolding tally
tally_more f a zero = ap (tally f) (add-zero a) ∙ sym (add-zero (tally f a))
tally_more f a (suc k) = ap (tally f) (add-suc a k) ∙ pick_more (f (a + k)) (tally f (a + k)) (tally f a) (tally (λ i. f (a + i)) k) (tally_more f a k)

-- the ones of a number of k digits are its set digits
ones_tally : (k n : ℕ) → n < 2 ^ k → ones n ≡ tally (λ i. eqb (digit n i) 1) k
unfolding ones tally
ones_tally zero n h = let q : n < 1 = h in let z : n ≡ 0 = omega arith in ap ones z
ones_tally (suc k) n h =
    let low : n % 2 ≡ tally (λ i. eqb (digit n i) 1) 1
    = bit_of (n % 2) (eqb (digit n 0) 1) (mod-lt n (pow_pos 1)) (ap (λ (d : ℕ). eqb d 1) (sym (digit_low n))) in
    let high : ones (n / 2) ≡ tally (λ i. eqb (digit n (1 + i)) 1) k
    = ones_tally k (n / 2) (half_lt k n h)
    ∙ tally_ext (λ i. eqb (digit (n / 2) i) 1) (λ i. eqb (digit n (1 + i)) 1) k (λ i q. ap (λ (d : ℕ). eqb d 1) (digit_shr n 1 i)) in
    let e : 1 + k ≡ suc k = omega arith in
    ones_step n ∙ ap₂ (λ (x y : ℕ). x + y) low high ∙ sym (tally_more (λ i. eqb (digit n i) 1) 1 k) ∙ ap (tally (λ i. eqb (digit n i) 1)) e

pub count_turn : (ws : List ℕ) (j : ℕ) → get_or ws j 0 < 2 ^ 64 → tally (marks ws) (64 * j) + ones (get_or ws j 0) ≡ tally (marks ws) (64 * (j + 1))
count_turn ws j fits =
    let e : 64 * j + 64 ≡ 64 * (j + 1) = omega arith in
    ap (λ (x : ℕ). tally (marks ws) (64 * j) + x)
    (ones_tally 64 (get_or ws j 0) fits ∙ tally_ext (λ i. eqb (digit (get_or ws j 0) i) 1) (λ i. marks ws (64 * j + i)) 64 (λ i q. sym (mark_at ws j i q)))
    ∙ sym (tally_more (marks ws) (64 * j) 64) ∙ ap (tally (marks ws)) e
