-- The words whose bits a test tells: each bit is as told, and 32 words of 64 bits are no others. Assumes nothing.
use mathlib.Core.Path.{◌≡◌, refl, sym, ap, ◌∙◌}
use mathlib.Core.Bool.{Bool, true, false}
use mathlib.Core.List.{List}
use Prim.Native.Nat.{ℕ, zero, suc, ◌+◌, ◌*◌, ◌/◌, ◌%◌, ◌^◌, ◌≤◌, ◌<◌, zero-le, suc-le-suc}
use native.Mathlib.Nat.{le_of_suc-le-suc, not-suc-le-zero, mod-lt, pow-suc, add-zero}
use native.Mathlib.Omega.{arith}
use lib.Dec.{eqb}
use lib.ListN.{length, get_or}
use lib.Pow.{pow_pos}
use lib.Seq.{ext_get_or}
use Rattle.le.specs.Choice.{pick}
use Rattle.le.specs.Part.{zeros}
use Rattle.le.proofs.Choices.{pick_keeps}
use Rattle.freemap.specs.Map.{marks, word_of, words_from, words_of, put_of}
use Rattle.freemap.proofs.Digits.{digit, digit_half, digit_low, half_lt}

-- ---- the bits of a word by their places

-- a bit by its word and its place there
pub mark_at : (ws : List ℕ) (j i : ℕ) → i < 64 → marks ws (64 * j + i) ≡ eqb (digit (get_or ws j 0) i) 1
unfolding marks
mark_at ws j i h =
    let a : (64 * j + i) / 64 ≡ j = omega arith in
    let b : (64 * j + i) % 64 ≡ i = omega arith in
    rw (a, b)

-- ---- one word

bit_set : (b : Bool) → eqb (pick b 1 0) 1 ≡ b
unfolding pick
bit_set true = refl
bit_set false = refl

bit_le : (b : Bool) → pick b 1 0 ≤ 1
bit_le b = pick_keeps (λ (n : ℕ). n ≤ 1) b 1 0 (omega arith) (omega arith)

-- a number below 2 is the digit of its test
pub bit_of : (n : ℕ) (b : Bool) → n < 2 → eqb n 1 ≡ b → n ≡ pick b 1 0
unfolding pick
bit_of zero b h e = ap (λ (x : Bool). pick x 1 0) e
bit_of (suc zero) b h e = ap (λ (x : Bool). pick x 1 0) e
bit_of (suc (suc n)) b h e = absurd (not-suc-le-zero (le_of_suc-le-suc (le_of_suc-le-suc h)))

module _ (f : ℕ → Bool) where
  word_lt : (k c : ℕ) → word_of f k c < 2 ^ k
  unfolding word_of
  word_lt zero c = omega arith
  word_lt (suc k) c =
      let p : 2 ^ suc k ≡ 2 ^ k * 2 = pow-suc 2 k in
      let b : pick (f c) 1 0 ≤ 1 = bit_le (f c) in
      let w : word_of f k (c + 1) < 2 ^ k = word_lt k (c + 1) in
      omega (arith, p, b, w)

  word_bit : (k c i : ℕ) → i < k → eqb (digit (word_of f k c) i) 1 ≡ f (c + i)
  unfolding word_of
  word_bit zero c i h = absurd (not-suc-le-zero h)
  word_bit (suc k) c zero h =
      let b : pick (f c) 1 0 ≤ 1 = bit_le (f c) in
      let e : (pick (f c) 1 0 + 2 * word_of f k (c + 1)) % 2 ≡ pick (f c) 1 0 = omega (arith, b) in
      ap (λ (d : ℕ). eqb d 1) (digit_low (pick (f c) 1 0 + 2 * word_of f k (c + 1)) ∙ e) ∙ bit_set (f c) ∙ ap f (sym (add-zero c))
  word_bit (suc k) c (suc i) h =
      let b : pick (f c) 1 0 ≤ 1 = bit_le (f c) in
      let e : (pick (f c) 1 0 + 2 * word_of f k (c + 1)) / 2 ≡ word_of f k (c + 1) = omega (arith, b) in
      let p : c + 1 + i ≡ c + suc i = omega arith in
      ap (λ (d : ℕ). eqb d 1) (digit_half (pick (f c) 1 0 + 2 * word_of f k (c + 1)) i ∙ ap (λ (n : ℕ). digit n i) e)
      ∙ word_bit k (c + 1) i (le_of_suc-le-suc h) ∙ ap f p

  -- a number of k digits that are as told
  word_told : (k n c : ℕ) → n < 2 ^ k → ((i : ℕ) → i < k → eqb (digit n i) 1 ≡ f (c + i)) → n ≡ word_of f k c
  unfolding word_of
  word_told zero n c h t = let q : n < 1 = h in omega arith
  word_told (suc k) n c h t =
      let low : n % 2 ≡ pick (f c) 1 0
      = bit_of (n % 2) (f c) (mod-lt n (pow_pos 1)) (ap (λ (d : ℕ). eqb d 1) (sym (digit_low n)) ∙ t 0 (suc-le-suc zero-le) ∙ ap f (add-zero c)) in
      let high : n / 2 ≡ word_of f k (c + 1) = word_told k (n / 2) (c + 1) (half_lt k n h) (λ i q. up i q) in
      omega (arith, low, high)
    where
      up : (i : ℕ) → i < k → eqb (digit (n / 2) i) 1 ≡ f (c + 1 + i)
      up i q = let p : c + suc i ≡ c + 1 + i = omega arith in ap (λ (d : ℕ). eqb d 1) (sym (digit_half n i)) ∙ t (suc i) (suc-le-suc q) ∙ ap f p

  -- ---- all words

  word_of_lem : (n c j : ℕ) → j < n → get_or (words_from f n c) j 0 ≡ word_of f 64 (c + 64 * j)
  unfolding words_from
  word_of_lem zero c j h = absurd (not-suc-le-zero h)
  word_of_lem (suc n) c zero h = ap (word_of f 64) (let e : c ≡ c + 64 * 0 = omega arith in e)
  word_of_lem (suc n) c (suc j) h = word_of_lem n (c + 64) j (le_of_suc-le-suc h) ∙ ap (word_of f 64) (let e : c + 64 + 64 * j ≡ c + 64 * suc j = omega arith in e)

  words_fit : (n c j : ℕ) → get_or (words_from f n c) j 0 < 2 ^ 64
  unfolding words_from
  words_fit zero c j = omega arith
  words_fit (suc n) c zero = word_lt 64 c
  words_fit (suc n) c (suc j) = words_fit n (c + 64) j

  words_long : (n c : ℕ) → length (words_from f n c) ≡ n
  unfolding words_from
  words_long zero c = refl
  words_long (suc n) c = ap suc (words_long n (c + 64))

pub length_words : (f : ℕ → Bool) → length (words_of f) ≡ 32
length_words f = words_long f 32 0

pub marks_words : (f : ℕ → Bool) (c : ℕ) → c < 2048 → marks (words_of f) c ≡ f c
marks_words f c h =
    let e : 64 * (c / 64) + c % 64 ≡ c = omega arith in
    let a : eqb (digit (get_or (words_of f) (c / 64) 0) (c % 64)) 1 ≡ eqb (digit (word_of f 64 (0 + 64 * (c / 64))) (c % 64)) 1
    = ap (λ (w : ℕ). eqb (digit w (c % 64)) 1) (word_of_lem f 32 0 (c / 64) (omega arith)) in
    let b : 0 + 64 * (c / 64) + c % 64 ≡ c = omega arith in
    ap (marks (words_of f)) (sym e) ∙ mark_at (words_of f) (c / 64) (c % 64) (omega arith) ∙ a ∙ word_bit f 64 (0 + 64 * (c / 64)) (c % 64) (omega arith) ∙ ap f b

-- two lists of 32 words with the same bits are equal
pub words_told : (ws : List ℕ) (f : ℕ → Bool) → length ws ≡ 32 → ((j : ℕ) → get_or ws j 0 < 2 ^ 64) → ((c : ℕ) → c < 2048 → marks ws c ≡ f c) → ws ≡ words_of f
words_told ws f long fits told = ext_get_or 0 ws (words_of f) (long ∙ sym (length_words f)) at
  where
    at : (j : ℕ) → j < length ws → get_or ws j 0 ≡ get_or (words_of f) j 0
    at j h =
        let in32 : j < 32 = omega (arith, long) in
        word_told f 64 (get_or ws j 0) (0 + 64 * j) (fits j)
        (λ i q. let p : 64 * j + i ≡ 0 + 64 * j + i = omega arith in sym (mark_at ws j i q) ∙ told (64 * j + i) (omega arith) ∙ ap f p)
        ∙ sym (word_of_lem f 32 0 j in32)

pub words_alike : (f g : ℕ → Bool) → ((c : ℕ) → c < 2048 → f c ≡ g c) → words_of f ≡ words_of g
words_alike f g h = words_told (words_of f) g (length_words f) (words_fit f 32 0) (λ c q. marks_words f c q ∙ h c q)

pub zeros_words : zeros 32 ≡ words_of (λ c. false)
unfolding zeros words_from word_of pick
zeros_words = refl

pub put_words : (f : ℕ → Bool) (c : ℕ) (b : Bool) → put_of (words_of f) c b ≡ words_of (λ d. pick (eqb d c) b (f d))
put_words f c b = words_alike (λ d. pick (eqb d c) b (marks (words_of f) d)) (λ d. pick (eqb d c) b (f d)) (λ d q. ap (pick (eqb d c) b) (marks_words f d q))
