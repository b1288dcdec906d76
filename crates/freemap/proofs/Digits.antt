-- The binary digits of a number: the lowest that is set, by `count_trailing_zeros`, and one turned, by `bit_xor`. Assumes nothing.
use mathlib.Core.Path.{◌≡◌, refl, sym, ap, ◌∙◌, subst}
use mathlib.Core.Bool.{not}
use Prim.Native.Nat.{ℕ, zero, suc, ◌+◌, ◌*◌, ◌/◌, ◌%◌, ◌^◌, ◌≤◌, ◌<◌, zero-le, suc-le-suc}
use native.Mathlib.Nat.{le_of_suc-le-suc, not-le_of_lt, not-suc-le-zero, mod-lt, pow-suc, zero-div, zero-mod}
use native.Mathlib.Numerals.{add-one}
use native.Mathlib.Omega.{arith}
use lib.Bits.{bit_xor, xor_shr, xor_mod, xor_zero_r}
use lib.Count.{count_trailing_zeros, under}
use lib.Dec.{eqb}
use lib.Pow.{pow_pos, shr-shr, shr_lt}

abbrev pub digit : ℕ → ℕ → ℕ
digit n i = n / 2 ^ i % 2

-- the digits of a number shifted down
pub digit_shr : (n b i : ℕ) → digit (n / 2 ^ b) i ≡ digit n (b + i)
digit_shr n b i = ap (λ (x : ℕ). x % 2) (shr-shr n b i)

-- the digits of a number but its lowest are those of its half
pub digit_half : (n i : ℕ) → digit n (suc i) ≡ digit (n / 2) i
digit_half n i = let e : suc i ≡ 1 + i = omega arith in ap (digit n) e ∙ sym (digit_shr n 1 i)

pub digit_low : (n : ℕ) → digit n 0 ≡ n % 2
digit_low n = ap (λ (x : ℕ). x % 2) (omega arith)

pub digit_zero : (i : ℕ) → digit 0 i ≡ 0
digit_zero i = simp (zero-div, zero-mod)

pub half_lt : (k n : ℕ) → n < 2 ^ suc k → n / 2 < 2 ^ k
half_lt k n h = shr_lt k 1 (subst (λ (x : ℕ). n < 2 ^ x) (sym (add-one k)) h)

-- ---- the lowest set digit

-- the digit at the count is set, where the count is short of all k
pub trailing_set : (k n : ℕ) → count_trailing_zeros k n < k → digit n (count_trailing_zeros k n) ≡ 1
unfolding count_trailing_zeros
trailing_set zero n h = absurd (not-suc-le-zero h)
trailing_set (suc k) n h = go (trailing_set k (n / 2)) (n % 2) refl h
  where
    go : (count_trailing_zeros k (n / 2) < k → digit (n / 2) (count_trailing_zeros k (n / 2)) ≡ 1)
        → (d : ℕ) → n % 2 ≡ d → under d (count_trailing_zeros k (n / 2)) < suc k → digit n (under d (count_trailing_zeros k (n / 2))) ≡ 1
    go ih zero e h = digit_half n (count_trailing_zeros k (n / 2)) ∙ ih (le_of_suc-le-suc h)
    go ih (suc d) e h = digit_low n ∙ (let b : n % 2 < 2 = mod-lt n (pow_pos 1) in omega arith)

-- and the digits below it are not
pub trailing_below : (k n i : ℕ) → i < count_trailing_zeros k n → digit n i ≡ 0
unfolding count_trailing_zeros
trailing_below zero n i h = absurd (not-suc-le-zero h)
trailing_below (suc k) n i h = go (trailing_below k (n / 2)) (n % 2) refl i h
  where
    go : ((j : ℕ) → j < count_trailing_zeros k (n / 2) → digit (n / 2) j ≡ 0) → (d : ℕ) → n % 2 ≡ d → (i : ℕ) → i < under d (count_trailing_zeros k (n / 2)) → digit n i ≡ 0
    go ih zero e zero h = digit_low n ∙ e
    go ih zero e (suc i) h = digit_half n i ∙ ih i (le_of_suc-le-suc h)
    go ih (suc d) e i h = absurd (not-suc-le-zero h)

-- a number of m digits that is not 0 has a set digit among them, however many are looked at
pub trailing_short : (m k n : ℕ) → m ≤ k → 0 < n → n < 2 ^ m → count_trailing_zeros k n < m
unfolding count_trailing_zeros
trailing_short zero k n l p h = absurd (not-le_of_lt h p)
trailing_short (suc m) zero n l p h = absurd (not-suc-le-zero l)
trailing_short (suc m) (suc k) n l p h = go (λ q. trailing_short m k (n / 2) (le_of_suc-le-suc l) q (half_lt m n h)) (n % 2) refl
  where
    go : (0 < n / 2 → count_trailing_zeros k (n / 2) < m) → (d : ℕ) → n % 2 ≡ d → under d (count_trailing_zeros k (n / 2)) < suc m
    go ih zero e = suc-le-suc (ih (omega arith))
    go ih (suc d) e = suc-le-suc zero-le

-- ---- one digit turned

one_here : (b : ℕ) → digit (2 ^ b) b ≡ 1
one_here zero = refl
one_here (suc b) = digit_half (2 ^ suc b) b ∙ ap (λ (x : ℕ). digit x b) (let e : 2 ^ suc b ≡ 2 ^ b * 2 = pow-suc 2 b in omega (arith, e)) ∙ one_here b

one_other : (b i : ℕ) → (i ≡ b → ⊥) → digit (2 ^ b) i ≡ 0
one_other zero zero h = absurd (h refl)
one_other zero (suc i) h = digit_half 1 i ∙ digit_zero i
one_other (suc b) zero h = digit_low (2 ^ suc b) ∙ (let e : 2 ^ suc b ≡ 2 ^ b * 2 = pow-suc 2 b in omega (arith, e))
one_other (suc b) (suc i) h =
    digit_half (2 ^ suc b) i ∙ ap (λ (x : ℕ). digit x i) (let e : 2 ^ suc b ≡ 2 ^ b * 2 = pow-suc 2 b in omega (arith, e)) ∙ one_other b i (λ e. h (ap suc e))

xor_digit : (a b i : ℕ) → digit (bit_xor a b) i ≡ bit_xor (digit a i) (digit b i)
xor_digit a b i = ap (λ (x : ℕ). x % 2) (xor_shr a b i) ∙ xor_mod (a / 2 ^ i) (b / 2 ^ i) 1

turned : (d : ℕ) → d < 2 → eqb (bit_xor d 1) 1 ≡ not (eqb d 1)
turned zero h = refl
turned (suc zero) h = refl
turned (suc (suc d)) h = absurd (not-suc-le-zero (le_of_suc-le-suc (le_of_suc-le-suc h)))

pub turn_here : (w b : ℕ) → eqb (digit (bit_xor w (2 ^ b)) b) 1 ≡ not (eqb (digit w b) 1)
turn_here w b =
    ap (λ (d : ℕ). eqb d 1) (xor_digit w (2 ^ b) b ∙ ap (bit_xor (digit w b)) (one_here b)) ∙ turned (digit w b) (mod-lt (w / 2 ^ b) (pow_pos 1))

pub turn_other : (w b i : ℕ) → (i ≡ b → ⊥) → digit (bit_xor w (2 ^ b)) i ≡ digit w i
turn_other w b i h = xor_digit w (2 ^ b) i ∙ ap (bit_xor (digit w i)) (one_other b i h) ∙ xor_zero_r (digit w i)
