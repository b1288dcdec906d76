-- A line by the ends of its fields, as `parse` finds them. Assumes nothing.
use Prim.Native.Nat.{ℕ, ◌+◌, ◌-◌, ◌≤◌, ◌<◌}
use mathlib.Core.Path.{◌≡◌, ◌∙◌}
use mathlib.Core.List.{List, ◌∷◌}
use native.Mathlib.Nat.{sub-zero}
use borrow.Author.Tests.{le-leb, lt-leb}
use lib.ListN.{length, take, drop}
use Rattle.le.specs.Choice.{pick}
use Rattle.runs.proofs.Splits.{some_part}
use Rattle.decimal.specs.Fields.{fields, field_len}
use Rattle.decimal.proofs.Ends.{last_field, next_field, tail_part}
use Rattle.words.specs.Words.{other, alone_of, with_one_of, with_two_of, of_fields, line_of}

pub too_long : (l : List ℕ) → 600 < length l → line_of l ≡ other
unfolding line_of pick
too_long l h = rw (lt-leb (length l) 600 h)

of_short : (l : List ℕ) → length l ≤ 600 → line_of l ≡ of_fields (fields l)
unfolding line_of pick
of_short l h = rw (le-leb (length l) 600 h)

module _ (l : List ℕ) (short : length l ≤ 600) (first : ℕ) (told1 : first ≡ 0 + field_len (drop 0 l)) where
  first_field : first < length l → fields l ≡ take first l ∷ fields (drop (first + 1) l)
  first_field h = next_field l 0 first told1 h ∙ rw sub-zero

  pub no_tab : first ≡ length l → line_of l ≡ alone_of l
  unfolding of_fields
  no_tab e = of_short l short ∙ rw (last_field l 0 first told1 e)

  module _ (tab1 : first < length l) (second : ℕ) (told2 : second ≡ first + 1 + field_len (drop (first + 1) l)) where
    pub one_tab : second ≡ length l → line_of l ≡ with_one_of (take first l) (drop (first + 1) l)
    unfolding of_fields
    one_tab e = of_short l short ∙ rw (first_field tab1, last_field l (first + 1) second told2 e)

    module _ (tab2 : second < length l) (third : ℕ) (told3 : third ≡ second + 1 + field_len (drop (second + 1) l)) where
      three : line_of l ≡ of_fields (take first l ∷ take (second - (first + 1)) (drop (first + 1) l) ∷ fields (drop (second + 1) l))
      three = of_short l short ∙ rw (first_field tab1, next_field l (first + 1) second told2 tab2)

      pub two_tabs : third ≡ length l → line_of l ≡ with_two_of (take first l) (take (second - (first + 1)) (drop (first + 1) l)) (drop (second + 1) l)
      unfolding of_fields
      two_tabs e = three ∙ rw (last_field l (second + 1) third told3 e)

      -- there is always a field, so three tabs are too many
      pub more_tabs : third < length l → line_of l ≡ other
      unfolding of_fields
      more_tabs h = three ∙ rw (next_field l (second + 1) third told3 h, some_part 9 (drop (third + 1) l))

pub ruleset by_ends = (too_long, no_tab, one_tab, two_tabs, more_tabs, tail_part)
