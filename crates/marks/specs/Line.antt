-- 02, S-1: a point is one line in the file `MARKS`: "point name, file id, record number .., both in decimal, 32 bits, no leading zero, parted by tabs,
-- with a line feed". Assumes nothing.
use Rattle.std.specs.Prelude.{ℕ, List, [], ◌∷◌, ◌++◌, eqb, Option, Some, None}
use Rattle.le.specs.Choice.{pick}
use Rattle.runs.specs.Run.{same_bytes}
use Rattle.names.specs.Names.{last_byte, all_but_last}
use Rattle.decimal.specs.Fields.{fields}
use Rattle.decimal.specs.Decimal.{plain_of, decimal_text}
use Rattle.marks.specs.declared.Mark.{Mark}

-- `MARKS`
abbrev pub marks_name : List ℕ
marks_name = 77 ∷ 65 ∷ 82 ∷ 75 ∷ 83 ∷ []

-- the line of a point: its name, the file's id, the record number
unfoldable pub line_of : List ℕ → ℕ → ℕ → List ℕ
line_of p id n = p ++ (9 ∷ decimal_text id) ++ (9 ∷ decimal_text n) ++ (10 ∷ [])

-- ---- what a record says of a name

-- two numbers
unfoldable pub mark_of : Option ℕ → Option ℕ → Option Mark
mark_of (Some id) (Some n) = Some (record { id = id; number = n })
mark_of (Some id) None = None
mark_of None n = None

-- "both in decimal, 32 bits, no leading zero"
unfoldable pub numbers_of : List ℕ → List ℕ → Option Mark
numbers_of id n = mark_of (plain_of 4294967295 id) (plain_of 4294967295 n)

-- three fields, the first of them the name
unfoldable pub three_of : List ℕ → List (List ℕ) → Option Mark
three_of p [] = None
three_of p (name ∷ []) = None
three_of p (name ∷ id ∷ []) = None
three_of p (name ∷ id ∷ n ∷ []) = pick (same_bytes name p) (numbers_of id n) None
three_of p (name ∷ id ∷ n ∷ more ∷ fs) = None

-- "parted by tabs, with a line feed": a record of another form says nothing
unfoldable pub says_of : List ℕ → List ℕ → Option Mark
says_of p x = pick (eqb (last_byte x) 10) (three_of p (fields (all_but_last x))) None
