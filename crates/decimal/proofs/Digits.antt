-- A number digit by digit, as the loop adds them. Assumes nothing.
use Prim.Native.Nat.{ℕ, ◌+◌, ◌-◌, ◌*◌, ◌≤◌, ◌<◌}
use mathlib.Core.Path.{◌≡◌, refl, sym, ◌∙◌}
use mathlib.Core.Bool.{Bool, true, false, ◌&&◌, and-false}
use mathlib.Core.List.{List, [], ◌∷◌}
use native.Mathlib.Omega.{arith}
use borrow.Author.Tests.{le-leb, lt-leb, leb-true}
use lib.Dec.{eqb, leb}
use lib.ListN.{length, get_or, drop}
use Rattle.le.specs.Choice.{pick}
use Rattle.le.proofs.Turns.{drop_one, drop_end}
use Rattle.le.proofs.Bools.{and_true}
use Rattle.std.specs.Prelude.{Some, None}
use Rattle.decimal.specs.Decimal.{is_digit, all_digits, value_from, decimal_from, decimal_of, leading_zero, plain_of}

pub digit_range : (b : ℕ) → is_digit b ≡ true → (48 ≤ b) × (b ≤ 57)
unfolding is_digit
digit_range b e = let both = and_true (leb 48 b) (leb b 57) e in (leb-true 48 b both.0, leb-true b 57 both.1)

-- digits that follow make no number smaller
grows : (l : List ℕ) (n : ℕ) → n ≤ value_from n l
unfolding value_from
grows [] n = omega arith
grows (b ∷ bs) n = omega (arith, grows bs (n * 10 + (b - 48)))

-- so a number past the largest one stays past it
past : (max n : ℕ) (l : List ℕ) → max < n → decimal_from max n l ≡ None
unfolding decimal_from pick
past max n l h = rw (lt-leb (value_from n l) max (omega (arith, grows l n)), and-false (all_digits l))

pub decimal_none : (max : ℕ) (l : List ℕ) → length l ≡ 0 → decimal_of max l ≡ None
unfolding decimal_of
decimal_none max [] e = refl
decimal_none max (b ∷ bs) e = absurd (omega arith)

pub decimal_some : (max : ℕ) (l : List ℕ) → (length l ≡ 0 → ⊥) → decimal_from max 0 l ≡ decimal_of max l
unfolding decimal_of
decimal_some max [] h = absurd (h refl)
decimal_some max (b ∷ bs) h = refl

-- ---- one turn of the loop

module _ (max n : ℕ) (l : List ℕ) (i : ℕ) (h : i < length l) where
  pub digit_next : is_digit (get_or l i 0) ≡ true → decimal_from max (n * 10 + (get_or l i 0 - 48)) (drop (i + 1) l) ≡ decimal_from max n (drop i l)
  unfolding decimal_from all_digits value_from
  digit_next e = rw (drop_one l i h, e)

  pub digit_stop : is_digit (get_or l i 0) ≡ false → decimal_from max n (drop i l) ≡ None
  unfolding decimal_from all_digits pick
  digit_stop e = rw (drop_one l i h, e)

  pub digit_past : is_digit (get_or l i 0) ≡ true → max < n * 10 + (get_or l i 0 - 48) → decimal_from max n (drop i l) ≡ None
  digit_past e k = sym (digit_next e) ∙ past max (n * 10 + (get_or l i 0 - 48)) (drop (i + 1) l) k

pub digit_end : (max n : ℕ) (l : List ℕ) (i : ℕ) → length l ≤ i → n ≤ max → decimal_from max n (drop i l) ≡ Some n
unfolding decimal_from all_digits value_from pick
digit_end max n l i h k = rw (drop_end l i h, le-leb n max k)

pub ruleset digit_turns = (decimal_none, decimal_some, digit_next, digit_stop, digit_past, digit_end)

-- ---- what a number tells of its text

from_said : (max n k : ℕ) (l : List ℕ) (t : Bool) → all_digits l && leb (value_from n l) max ≡ t → decimal_from max n l ≡ Some k → (all_digits l ≡ true) × (value_from n l ≡ k) × (k ≤ max)
unfolding decimal_from pick
from_said max n k l true e h =
    let both = and_true (all_digits l) (leb (value_from n l) max) e in
    let z : value_from n l ≤ max = leb-true (value_from n l) max both.1 in
    let v : Some (value_from n l) ≡ Some k = rw e at h in
    let q : value_from n l ≡ k = cc in
    (both.0, q, omega arith)
from_said max n k l false e h =
    let v : None ≡ Some k = rw e at h in
    let z : ◌≡◌ {A = ℕ} 0 1 = cc in
    absurd (omega arith)

pub decimal_said : (max n : ℕ) (l : List ℕ) → decimal_of max l ≡ Some n → (1 ≤ length l) × (all_digits l ≡ true) × (value_from 0 l ≡ n) × (n ≤ max)
unfolding decimal_of
decimal_said max n [] e = let z : ◌≡◌ {A = ℕ} 0 1 = cc in absurd (omega arith)
decimal_said max n (b ∷ bs) e =
    let said = from_said max 0 n (b ∷ bs) (all_digits (b ∷ bs) && leb (value_from 0 (b ∷ bs)) max) refl e in
    (omega arith, said.0, said.1, said.2)

pub decimal_most : (max n : ℕ) (l : List ℕ) → decimal_of max l ≡ Some n → n ≤ max
decimal_most max n l e = (decimal_said max n l e).3

-- ---- no leading zero

module _ (l : List ℕ) where
  pub short_zero : length l < 2 → leading_zero l ≡ false
  unfolding leading_zero
  short_zero h = rw (lt-leb 2 (length l) h)

  pub long_zero : 2 ≤ length l → leading_zero l ≡ eqb (get_or l 0 0) 48
  unfolding leading_zero
  long_zero h = rw (le-leb 2 (length l) h)

  pub plain_zero : (max : ℕ) → leading_zero l ≡ true → plain_of max l ≡ None
  unfolding plain_of pick
  plain_zero max e = rw e

  pub plain_read : (max : ℕ) → leading_zero l ≡ false → plain_of max l ≡ decimal_of max l
  unfolding plain_of pick
  plain_read max e = rw e

pub plain_most : (max n : ℕ) (l : List ℕ) → plain_of max l ≡ Some n → n ≤ max
plain_most max n l e = go (leading_zero l) refl
  where
    go : (t : Bool) → leading_zero l ≡ t → n ≤ max
    go true z = let v : None ≡ Some n = sym (plain_zero l max z) ∙ e in absurd (cc)
    go false z = decimal_most max n l (sym (plain_read l max z) ∙ e)

pub ruleset zero_forms = (short_zero, long_zero)

pub ruleset plain_forms = (plain_zero, plain_read)
