-- 01, "Hosts", the line program: what it prints. Fields are parted by tabs, numbers are decimal, and a line feed ends each line. Assumes nothing.
use Rattle.std.specs.Prelude.{ℕ, zero, suc, ◌*◌, ◌≤◌, List, [], ◌∷◌, ◌++◌, take}
use Rattle.le.specs.Field.{get_le}
use Rattle.le.specs.Part.{part}
use Rattle.decimal.specs.Decimal.{decimal_text}
use Rattle.names.specs.Names.{text_len}
use Rattle.session.specs.Session.{Said, ok, listed, no}

-- a further field
unfoldable pub field_text : ℕ → List ℕ
field_text n = 9 ∷ decimal_text n

abbrev pub ok_word : List ℕ
ok_word = 111 ∷ 107 ∷ []

abbrev pub no_word : List ℕ
no_word = 110 ∷ 111 ∷ []

-- `ok` or `no` and a number
unfoldable pub word_text : List ℕ → ℕ → List ℕ
word_text word n = word ++ field_text n ++ (10 ∷ [])

-- a row: name, id, chunks
unfoldable pub row_text : List ℕ → List ℕ
row_text row = take (text_len (part 0 40 row)) row ++ field_text (get_le 4 40 row) ++ field_text (get_le 4 44 row) ++ (10 ∷ [])

-- the first n of the 48-byte rows
unfoldable pub rows_text : ℕ → List ℕ → List ℕ
rows_text zero rows = []
rows_text (suc n) rows = rows_text n rows ++ row_text (part (48 * n) 48 rows)

-- an answer; a list's rows follow
unfoldable pub said_text : Said → List ℕ → List ℕ
said_text (ok n) rows = word_text ok_word n
said_text (listed n) rows = word_text ok_word n ++ rows_text n rows
said_text (no n) rows = word_text no_word n

-- a list has at most 64 rows
abbrev pub Few : Said → Type 0
Few (ok n) = Unit {0}
Few (listed n) = n ≤ 64
Few (no n) = Unit {0}
