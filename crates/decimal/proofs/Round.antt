-- Each number has one text with no leading zero: it is read back, and no other text is read as it. Assumes nothing.
use Prim.Native.Nat.{ℕ, zero, suc, ◌+◌, ◌-◌, ◌*◌, ◌/◌, ◌%◌, ◌^◌, ◌≤◌, ◌<◌}
use mathlib.Core.Path.{◌≡◌, refl, sym, ◌∙◌}
use mathlib.Core.Bool.{Bool, true, false, and-false}
use mathlib.Core.List.{List, [], ◌∷◌, ◌++◌, append-nil}
use native.Mathlib.Nat.{zero-add, pow-succ'}
use native.Mathlib.Omega.{arith}
use borrow.Author.Tests.{le-leb, ltb-true, ltb-false, eqb-false, ne_eqb}
use lib.Dec.{leb, ltb}
use lib.ListN.{length, get_or, length-append, get_or-append}
use lib.Seq.{append_snoc}
use Rattle.le.specs.Choice.{pick}
use Rattle.le.proofs.Bools.{and_true}
use Rattle.std.specs.Prelude.{Some, None}
use Rattle.decimal.specs.Decimal.{is_digit, all_digits, value_from, decimal_from, leading_zero, plain_of, digits_of, decimal_text}
use Rattle.decimal.proofs.Digits.{digit_range, decimal_some, decimal_said, short_zero, long_zero, plain_zero, plain_read}
use Rattle.decimal.proofs.Texts.{one_digit, more_digits, fewer}

-- a number of one digit, or of more
by_ten : {P : Type 0} (n : ℕ) → (n < 10 → P) → (10 ≤ n → P) → P
by_ten {P = P} n one more = go (ltb n 10) refl
  where
    go : (t : Bool) → ltb n 10 ≡ t → P
    go true e = one (ltb-true n 10 e)
    go false e = more (ltb-false n 10 e)

-- ---- the text of a number: digits, one at least, read as the number

digit_ok : (d : ℕ) → d < 10 → is_digit (48 + d) ≡ true
unfolding is_digit
digit_ok d h = rw (le-leb 48 (48 + d) (omega arith), le-leb (48 + d) 57 (omega arith))

all_then : (a : List ℕ) (d : ℕ) → all_digits a ≡ true → d < 10 → all_digits (a ++ ((48 + d) ∷ [])) ≡ true
unfolding all_digits
all_then [] d e h = rw (digit_ok d h)
all_then (x ∷ xs) d e h =
    let p = and_true (is_digit x) (all_digits xs) e in
    rw (p.0, all_then xs d p.1 h)

all_digits_lem : (k n : ℕ) → all_digits (digits_of k n) ≡ true
unfolding all_digits digits_of
all_digits_lem zero n = refl
all_digits_lem (suc k) n =
    by_ten n (λ h. rw (one_digit k n h) (all_then [] n refl h))
    (λ h. rw (more_digits k n h) (all_then (digits_of k (n / 10)) (n % 10) (all_digits_lem k (n / 10)) (omega arith)))

value_then : (a b : List ℕ) (n : ℕ) → value_from n (a ++ b) ≡ value_from (value_from n a) b
unfolding value_from
value_then [] b n = refl
value_then (x ∷ xs) b n = value_then xs b (n * 10 + (x - 48))

value_back : (k n : ℕ) → n < 10 ^ suc k → value_from 0 (digits_of (suc k) n) ≡ n
unfolding value_from
value_back zero n m = rw (one_digit 0 n m) (omega arith)
value_back (suc k) n m =
    by_ten n (λ h. rw (one_digit (suc k) n h) (omega arith))
    (λ h. rw (more_digits (suc k) n h, value_then (digits_of (suc k) (n / 10)) ((48 + n % 10) ∷ []) 0, value_back k (n / 10) (fewer (suc k) n m)) (omega arith))

some_digit : (k n : ℕ) → 1 ≤ length (digits_of (suc k) n)
some_digit k n = by_ten n (λ h. rw (one_digit k n h) (omega arith)) (λ h. rw (more_digits k n h, length-append) (omega arith))

few_digits : (j k n : ℕ) → n < 10 ^ suc j → j ≤ k → length (digits_of (suc k) n) ≤ suc j
few_digits zero k n m h = rw (one_digit k n m) (omega arith)
few_digits (suc j) zero n m h = absurd (omega arith)
few_digits (suc j) (suc k) n m h =
    by_ten n (λ s. rw (one_digit (suc k) n s) (omega arith))
    (λ s. rw (more_digits (suc k) n s, length-append) (omega (arith, few_digits j k (n / 10) (fewer (suc j) n m) (omega arith))))

-- ---- its first digit is no 0, unless it is the only one

first_digit : (k n : ℕ) → 1 ≤ n → n < 10 ^ suc k → 49 ≤ get_or (digits_of (suc k) n) 0 0
first_digit zero n h m = rw (one_digit 0 n m) (omega arith)
first_digit (suc k) n h m =
    by_ten n (λ s. rw (one_digit (suc k) n s) (omega arith))
    (λ s.
    let front = get_or-append (digits_of (suc k) (n / 10)) ((48 + n % 10) ∷ []) 0 0 (some_digit k (n / 10)) in
    rw (more_digits (suc k) n s, front) (first_digit k (n / 10) (omega arith) (fewer (suc k) n m)))

no_zero : (k n : ℕ) → n < 10 ^ suc k → leading_zero (digits_of (suc k) n) ≡ false
unfolding leading_zero
no_zero k zero m = short_zero (digits_of (suc k) 0) (rw (one_digit k 0 (omega arith)) (omega arith))
no_zero k (suc n) m =
    let l : List ℕ = digits_of (suc k) (suc n) in
    let other : (get_or l 0 0 ≡ 48 → ⊥) = λ e. omega (arith, first_digit k (suc n) (omega arith) m) in
    rw (ne_eqb (get_or l 0 0) 48 other) (and-false (leb 2 (length l)))

-- ---- digits with no zero before them are the text of the number that they say

-- the digits of m, then l, are those of the number that l says after m
grown : (l : List ℕ) (j m : ℕ) → 1 ≤ m → all_digits l ≡ true → digits_of (length l + j) (value_from m l) ≡ digits_of j m ++ l
unfolding all_digits value_from
grown [] j m h e = rw (zero-add j, append-nil (digits_of j m))
grown (b ∷ bs) j m h e =
    let p = and_true (is_digit b) (all_digits bs) e in
    let r = digit_range b p.0 in
    let n : ℕ = m * 10 + (b - 48) in
    let q : n / 10 ≡ m = omega arith in
    let d : 48 + n % 10 ≡ b = omega arith in
    let i : length (b ∷ bs) + j ≡ length bs + suc j = omega arith in
    rw (i, grown bs (suc j) n (omega arith) p.1, more_digits j n (omega arith), q, d) (append_snoc (digits_of j m) b bs)

below : (l : List ℕ) (j m : ℕ) → m < 10 ^ j → all_digits l ≡ true → value_from m l < 10 ^ (length l + j)
unfolding all_digits value_from
below [] j m h e = rw (zero-add j) h
below (b ∷ bs) j m h e =
    let p = and_true (is_digit b) (all_digits bs) e in
    let r = digit_range b p.0 in
    let s : 10 ^ suc j ≡ 10 * 10 ^ j = pow-succ' 10 j in
    let i : length (b ∷ bs) + j ≡ length bs + suc j = omega arith in
    rw i (below bs (suc j) (m * 10 + (b - 48)) (omega arith) p.1)

-- room for more digits changes none
room : (j k n : ℕ) → n < 10 ^ suc j → n < 10 ^ suc k → digits_of (suc j) n ≡ digits_of (suc k) n
room zero k n h m = rw (one_digit 0 n h, one_digit k n h)
room (suc j) zero n h m = rw (one_digit (suc j) n m, one_digit 0 n m)
room (suc j) (suc k) n h m =
    by_ten n (λ s. rw (one_digit (suc j) n s, one_digit (suc k) n s))
    (λ s. rw (more_digits (suc j) n s, more_digits (suc k) n s, room j k (n / 10) (fewer (suc j) n h) (fewer (suc k) n m)))

text_of : (l : List ℕ) → 1 ≤ length l → all_digits l ≡ true → leading_zero l ≡ false → value_from 0 l < 10 ^ 20 → l ≡ decimal_text (value_from 0 l)
unfolding all_digits value_from decimal_text
text_of [] s e z h = absurd (omega arith)
text_of (b ∷ []) s e z h =
    let r = digit_range b (and_true (is_digit b) true e).0 in
    let d : 48 + (0 * 10 + (b - 48)) ≡ b = omega arith in
    rw (one_digit 19 (0 * 10 + (b - 48)) (omega arith), d)
text_of (b ∷ c ∷ cs) s e z h =
    let l : List ℕ = c ∷ cs in
    let p = and_true (is_digit b) (all_digits l) e in
    let r = digit_range b p.0 in
    let n : ℕ = 0 * 10 + (b - 48) in
    let other : (b ≡ 48 → ⊥) = eqb-false b 48 (sym (long_zero (b ∷ l) (omega arith)) ∙ z) in
    let other_some : 1 ≤ n = omega (arith, other) in
    let d : 48 + n ≡ b = omega arith in
    let one : digits_of 1 n ++ l ≡ b ∷ l = rw (one_digit 0 n (omega arith), d) in
    let i : length l + 1 ≡ suc (length l) = omega arith in
    let few : value_from n l < 10 ^ suc (length l) = rw i at (below l 1 n (omega arith) p.1) in
    sym one ∙ sym (grown l 1 n other_some p.1) ∙ rw i (room (length l) 19 (value_from n l) few h)

-- ---- the laws

pub text_short : (n : ℕ) → n < 4294967296 → length (decimal_text n) ≤ 10
unfolding decimal_text
text_short n h = few_digits 9 19 n (omega arith) (omega arith)

pub text_digits : (n : ℕ) → all_digits (decimal_text n) ≡ true
unfolding decimal_text
text_digits n = all_digits_lem 20 n

from_text : (max n : ℕ) → n < 10 ^ 20 → n ≤ max → decimal_from max 0 (digits_of 20 n) ≡ Some n
unfolding decimal_from pick
from_text max n m h = rw (all_digits_lem 20 n, value_back 19 n m, le-leb n max h)

module _ (max n : ℕ) (wide : max < 18446744073709551616) where
  -- a number's text is read as the number
  pub plain_text : n ≤ max → plain_of max (decimal_text n) ≡ Some n
  unfolding decimal_text
  plain_text h =
      let m : n < 10 ^ 20 = omega arith in
      let some : (length (digits_of 20 n) ≡ 0 → ⊥) = λ e. omega (arith, some_digit 19 n) in
      plain_read (digits_of 20 n) max (no_zero 19 n m) ∙ sym (decimal_some max (digits_of 20 n) some) ∙ from_text max n m h

  -- and no other text is
  pub plain_only : (l : List ℕ) → plain_of max l ≡ Some n → (l ≡ decimal_text n) × (n ≤ max)
  plain_only l e = go (leading_zero l) refl
    where
      go : (t : Bool) → leading_zero l ≡ t → (l ≡ decimal_text n) × (n ≤ max)
      go true z =
          let v : None ≡ Some n = sym (plain_zero l max z) ∙ e in
          let q : ◌≡◌ {A = ℕ} 0 1 = cc in
          absurd (omega arith)
      go false z =
          let s = decimal_said max n l (sym (plain_read l max z) ∙ e) in
          (rw s.2 at (text_of l s.0 s.1 z (omega arith)), s.3)
