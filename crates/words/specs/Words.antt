-- 01, "Hosts": one line of the line program, without its line feed. Its fields are parted by tabs, and numbers are decimal. A line of another form, of
-- over 600 bytes or with a number past its width (size 32 bits, seed 64) is `other`: the program answers it with 2. Assumes nothing.
use Rattle.std.specs.Prelude.{ℕ, List, [], ◌∷◌, leb, length, Option, Some, None}
use denote.Ref.{Bor}
use Rattle.le.specs.Choice.{pick}
use Rattle.runs.specs.Run.{same_bytes}
use Rattle.decimal.specs.Fields.{fields}
use Rattle.decimal.specs.Decimal.{decimal_of}
use Rattle.words.specs.declared.Parsed.{Parsed}
use Rattle.words.specs.declared.Parsed.TheVariants.{Other, Format, Create, Append, Sync, Delete, List as Listed}

-- a create's third field
pub data Rollover : Type 0 where
  no_rollover : Rollover
  rollover : List ℕ → Rollover

-- a line's word and what follows it
pub data Line : Type 0 where
  format : ℕ → ℕ → Line
  create : List ℕ → Rollover → Line
  append : List ℕ → Line
  sync : Line
  delete : List ℕ → Line
  list : Line
  other : Line

abbrev pub format_word : List ℕ
format_word = 102 ∷ 111 ∷ 114 ∷ 109 ∷ 97 ∷ 116 ∷ []

abbrev pub create_word : List ℕ
create_word = 99 ∷ 114 ∷ 101 ∷ 97 ∷ 116 ∷ 101 ∷ []

abbrev pub append_word : List ℕ
append_word = 97 ∷ 112 ∷ 112 ∷ 101 ∷ 110 ∷ 100 ∷ []

abbrev pub sync_word : List ℕ
sync_word = 115 ∷ 121 ∷ 110 ∷ 99 ∷ []

abbrev pub delete_word : List ℕ
delete_word = 100 ∷ 101 ∷ 108 ∷ 101 ∷ 116 ∷ 101 ∷ []

abbrev pub list_word : List ℕ
list_word = 108 ∷ 105 ∷ 115 ∷ 116 ∷ []

-- `-` is no rollover
abbrev pub dash : List ℕ
dash = 45 ∷ []

unfoldable pub rollover_of : List ℕ → Rollover
rollover_of dir = pick (same_bytes dir dash) no_rollover (rollover dir)

-- `sync`, `list`
unfoldable pub alone_of : List ℕ → Line
alone_of w = pick (same_bytes w sync_word) sync (pick (same_bytes w list_word) list other)

-- `append` text, `delete` name
unfoldable pub with_one_of : List ℕ → List ℕ → Line
with_one_of w a = pick (same_bytes w append_word) (append a) (pick (same_bytes w delete_word) (delete a) other)

-- both numbers, or another form
unfoldable pub both_of : Option ℕ → Option ℕ → Line
both_of (Some size) (Some seed) = format size seed
both_of (Some size) None = other
both_of None seed = other

-- a size of 32 bits and a seed of 64
unfoldable pub format_of : List ℕ → List ℕ → Line
format_of a b = both_of (decimal_of 4294967295 a) (decimal_of 18446744073709551615 b)

-- `format` size seed, `create` name, directory
unfoldable pub with_two_of : List ℕ → List ℕ → List ℕ → Line
with_two_of w a b = pick (same_bytes w format_word) (format_of a b) (pick (same_bytes w create_word) (create a (rollover_of b)) other)

-- by the count of fields
unfoldable pub of_fields : List (List ℕ) → Line
of_fields [] = other
of_fields (w ∷ []) = alone_of w
of_fields (w ∷ a ∷ []) = with_one_of w a
of_fields (w ∷ a ∷ b ∷ []) = with_two_of w a b
of_fields (w ∷ a ∷ b ∷ c ∷ fs) = other

-- a line of at most 600 bytes, by its fields
unfoldable pub line_of : List ℕ → Line
line_of l = pick (leb (length l) 600) (of_fields (fields l)) other

-- ---- what the code's answer says

-- a create's directory, where it has one
unfoldable pub rollover_in : Option (Bor (List ℕ)) → Rollover
rollover_in None = no_rollover
rollover_in (Some dir) = rollover dir.now

unfoldable pub meaning : Parsed → Line
meaning Other = other
meaning (Format size seed) = format size seed
meaning (Create name dir) = create name.now (rollover_in dir)
meaning (Append text) = append text.now
meaning Sync = sync
meaning (Delete name) = delete name.now
meaning Listed = list
