-- A line's fields, "parted by tabs" (01, "Hosts"; 02, S-1). Assumes nothing.
use Rattle.std.specs.Prelude.{ℕ, List, [], length, get_or}
use Rattle.runs.specs.Split.{split_at}

-- the line split at each tab
abbrev pub fields : List ℕ → List (List ℕ)
fields l = split_at 9 l

-- the length of the first field
unfoldable pub field_len : List ℕ → ℕ
field_len l = length (get_or (fields l) 0 [])
