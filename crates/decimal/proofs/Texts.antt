-- A number's digits, as the loop puts them, the lowest first. Assumes nothing.
use Prim.Native.Nat.{ℕ, zero, suc, ◌+◌, ◌*◌, ◌/◌, ◌%◌, ◌^◌, ◌≤◌, ◌<◌}
use mathlib.Core.Path.{◌≡◌, sym, ◌∙◌}
use mathlib.Core.List.{List, [], ◌∷◌, ◌++◌, append-nil}
use native.Mathlib.Nat.{pow-succ'}
use native.Mathlib.Omega.{arith}
use borrow.Author.Tests.{lt-ltb, le-ltb}
use lib.Dec.{ltb}
use lib.ListN.{length, drop, set, length-append}
use lib.Seq.{drop-cons, append_snoc, get_or-set_same, drop-set-lt, lt-length-set}
use Rattle.le.specs.Choice.{pick}
use Rattle.le.proofs.Choices.{pick_keeps}
use Rattle.le.proofs.Turns.{drop_end}
use Rattle.decimal.specs.Decimal.{digits_of, decimal_text}

pub one_digit : (k n : ℕ) → n < 10 → digits_of (suc k) n ≡ (48 + n) ∷ []
unfolding digits_of pick
one_digit k n h = rw (lt-ltb n 10 h)

pub more_digits : (k n : ℕ) → 10 ≤ n → digits_of (suc k) n ≡ digits_of k (n / 10) ++ ((48 + n % 10) ∷ [])
unfolding digits_of pick
more_digits k n h = rw (le-ltb n 10 h)

-- no more than are allowed
digits_room : (k n : ℕ) → length (digits_of k n) ≤ k
unfolding digits_of
digits_room zero n = omega arith
digits_room (suc k) n =
    pick_keeps (λ (l : List ℕ). length l ≤ suc k) (ltb n 10) _ _ (omega arith)
    (let h = digits_room k (n / 10) in rw (length-append (digits_of k (n / 10)) ((48 + n % 10) ∷ [])) (omega (arith, h)))

pub text_room : (n : ℕ) → length (decimal_text n) ≤ 20
unfolding decimal_text
text_room n = digits_room 20 n

-- a number of at most k + 1 digits has at most k of them without the last
pub fewer : (k n : ℕ) → n < 10 ^ suc k → n / 10 < 10 ^ k
fewer k n h = let e : 10 ^ suc k ≡ 10 * 10 ^ k = pow-succ' 10 k in omega arith

-- and where it has two there is one left
pub two : (k n : ℕ) → 10 ≤ n → n < 10 ^ suc k → 1 ≤ k
two zero n h m = absurd (omega arith)
two (suc k) n h m = omega arith

-- ---- one turn of the loop

-- a byte put at j stands before those after it
put_front : (l : List ℕ) (j b : ℕ) → j < length l → drop j (set l j b) ≡ b ∷ drop (suc j) l
put_front l j b h =
    drop-cons (set l j b) j 0 (lt-length-set l j b h) ∙ rw (get_or-set_same l j b 0 h, drop-set-lt (suc j) l j b (omega arith))

pub digits_start : (l : List ℕ) (n : ℕ) → length l ≡ 20 → digits_of 20 n ++ drop 20 l ≡ decimal_text n
unfolding decimal_text
digits_start l n e = rw (drop_end l 20 (omega arith)) (append-nil (digits_of 20 n))

module _ (l : List ℕ) (i j left : ℕ) (h : i ≡ suc j) (k : j < length l) where
  pub digits_next : 10 ≤ left → digits_of j (left / 10) ++ drop j (set l j (48 + left % 10)) ≡ digits_of i left ++ drop i l
  digits_next m =
      rw (put_front l j (48 + left % 10) k, h, more_digits j left m) (sym (append_snoc (digits_of j (left / 10)) (48 + left % 10) (drop (suc j) l)))

  pub digits_last : left < 10 → drop j (set l j (48 + left)) ≡ digits_of i left ++ drop i l
  digits_last m = rw (put_front l j (48 + left) k, h, one_digit j left m)

pub ruleset digit_puts = (digits_start, digits_last)
