-- What a record says, as the code finds it: the line feed, the ends of the fields, the name, the numbers. Assumes nothing.
use Prim.Native.Nat.{ℕ, ◌+◌, ◌-◌, ◌<◌}
use mathlib.Core.Path.{◌≡◌, refl}
use mathlib.Core.Bool.{true, false}
use mathlib.Core.List.{List, [], ◌∷◌, ◌++◌}
use native.Mathlib.Omega.{arith}
use borrow.Author.Tests.{eq-eqb, ne_eqb}
use lib.ListN.{length, get_or, take, drop}
use Rattle.std.specs.Prelude.{Some, None}
use Rattle.le.specs.Choice.{pick}
use Rattle.runs.specs.Run.{same_bytes}
use Rattle.runs.proofs.Splits.{some_part}
use Rattle.names.specs.Names.{last_byte, all_but_last}
use Rattle.names.proofs.Segments.{last_is, front_is}
use Rattle.decimal.specs.Fields.{fields, field_len}
use Rattle.decimal.specs.Decimal.{plain_of}
use Rattle.decimal.proofs.Digits.{plain_most}
use Rattle.decimal.proofs.Ends.{last_field, next_field, tail_part}
use Rattle.marks.specs.Line.{mark_of, numbers_of, three_of, says_of}

-- ---- the numbers

module _ (id n : List ℕ) where
  pub no_id : plain_of 4294967295 id ≡ None → numbers_of id n ≡ None
  unfolding numbers_of mark_of
  no_id e = rw e

  pub no_number : {i : ℕ} → plain_of 4294967295 id ≡ Some i → plain_of 4294967295 n ≡ None → numbers_of id n ≡ None
  unfolding numbers_of mark_of
  no_number e f = rw (e, f)

  pub both : {i k : ℕ} → plain_of 4294967295 id ≡ Some i → plain_of 4294967295 n ≡ Some k → numbers_of id n ≡ Some (record { id = i; number = k })
  unfolding numbers_of mark_of
  both e f = rw (e, f)

-- each is of 32 bits
pub narrow : (l : List ℕ) (n : ℕ) → plain_of 4294967295 l ≡ Some n → n < 4294967296
narrow l n e = let most = plain_most 4294967295 n l e in omega arith

pub ruleset two_numbers = (no_id, no_number, both, narrow)

-- ---- the fields, by their ends

-- a first field that is another name
pub other_first : (p name : List ℕ) (fs : List (List ℕ)) → same_bytes name p ≡ false → three_of p (name ∷ fs) ≡ None
unfolding three_of pick
other_first p name [] e = refl
other_first p name (id ∷ []) e = refl
other_first p name (id ∷ n ∷ []) e = rw e
other_first p name (id ∷ n ∷ more ∷ fs) e = refl

module _ (p l : List ℕ) (first : ℕ) (told1 : first ≡ 0 + field_len (drop 0 l)) where
  pub no_tab : first ≡ length l → three_of p (fields l) ≡ None
  unfolding three_of
  no_tab e = rw (last_field l 0 first told1 e)

  module _ (tab1 : first < length l) where
    pub other_name : same_bytes (take (first - 0) l) p ≡ false → three_of p (fields l) ≡ None
    other_name e = rw (next_field l 0 first told1 tab1) (other_first p (take (first - 0) l) (fields (drop (first + 1) l)) e)

    module _ (second : ℕ) (told2 : second ≡ first + 1 + field_len (drop (first + 1) l)) where
      pub one_tab : second ≡ length l → three_of p (fields l) ≡ None
      unfolding three_of
      one_tab e = rw (next_field l 0 first told1 tab1, last_field l (first + 1) second told2 e)

      module _ (tab2 : second < length l) (third : ℕ) (told3 : third ≡ second + 1 + field_len (drop (second + 1) l)) where
        -- there is always a field, so three tabs are too many
        pub more_tabs : third < length l → three_of p (fields l) ≡ None
        unfolding three_of
        more_tabs h =
            rw (next_field l 0 first told1 tab1, next_field l (first + 1) second told2 tab2, next_field l (second + 1) third told3 h, some_part 9 (drop (third + 1) l))

        pub two_tabs : third ≡ length l → same_bytes (take (first - 0) l) p ≡ true
            → three_of p (fields l) ≡ numbers_of (take (second - (first + 1)) (drop (first + 1) l)) (drop (second + 1) l)
        unfolding three_of pick
        two_tabs e s = rw (next_field l 0 first told1 tab1, next_field l (first + 1) second told2 tab2, last_field l (second + 1) third told3 e, s)

pub ruleset three_fields = (no_tab, other_name, one_tab, more_tabs, two_tabs, tail_part)

-- ---- the line feed

pub no_byte : (p x : List ℕ) → length x ≡ 0 → says_of p x ≡ None
unfolding says_of last_byte pick
no_byte p [] e = refl
no_byte p (b ∷ bs) e = absurd (omega arith)

module _ (p x : List ℕ) where
  pub no_feed : (get_or x (length x - 1) 0 ≡ 10 → ⊥) → says_of p x ≡ None
  unfolding says_of last_byte pick
  no_feed h = rw (ne_eqb (get_or x (length x - 1) 0) 10 h)

  pub with_feed : get_or x (length x - 1) 0 ≡ 10 → says_of p x ≡ three_of p (fields (take (length x - 1) x))
  unfolding says_of last_byte all_but_last pick
  with_feed e = rw (eq-eqb (get_or x (length x - 1) 0) 10 e)

-- the same of a record that is parted into its last byte and the bytes before it
module _ (p x text : List ℕ) (b : ℕ) (parted : x ≡ text ++ (b ∷ [])) where
  pub last_other : (b ≡ 10 → ⊥) → says_of p x ≡ None
  unfolding says_of pick
  last_other h = rw (last_is x text b parted, ne_eqb b 10 h)

  pub last_feed : b ≡ 10 → says_of p x ≡ three_of p (fields text)
  unfolding says_of pick
  last_feed e = rw (last_is x text b parted, front_is x text b parted, eq-eqb b 10 e)

pub ruleset line_feed = (no_byte, last_other, last_feed)
