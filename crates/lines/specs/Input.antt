-- 01, "Hosts", the line program: its input in lines. Any bytes, of any length; a last line need not end in a line feed. Assumes nothing.
use Rattle.std.specs.Prelude.{ℕ, ◌≤◌, ◌≡◌, Bool, true, false, List, [], ◌∷◌, ◌++◌, eqb, ltb, length, take, drop, is_some, unwrap_or}
use Rattle.le.specs.Choice.{pick}
use Rattle.runs.specs.Split.{longer}
use Rattle.lines.specs.declared.input.Gathered.{Gathered}

-- the input split at each line feed; what follows the last one is a line too, unless it is empty
unfoldable pub lines_of : List ℕ → List (List ℕ)
lines_of [] = []
lines_of (b ∷ bs) = pick (eqb b 10) ([] ∷ lines_of bs) (longer b (lines_of bs))

-- of a line no more than 601 bytes are kept: a line of 601 bytes is one of over 600
unfoldable pub kept_of : List ℕ → ℕ → List ℕ
kept_of line b = pick (ltb (length line) 601) (line ++ (b ∷ [])) line

-- the bytes of a line up to its line feed, after those kept before
pub record Gathering : Type 0 where
  pub line : List ℕ
  pub ended : Bool
  pub rest : List ℕ

unfoldable pub gather_of : List ℕ → List ℕ → Gathering
gather_of line [] = record { line = line; ended = false; rest = [] }
gather_of line (b ∷ bs) = pick (eqb b 10) (record { line = line; ended = true; rest = bs }) (gather_of (kept_of line b) bs)

-- what the code gathered, as places: the line's bytes, whether its line feed came, and what is left of the part
abbrev pub GatheredAt : Gathered → List ℕ → List ℕ → Gathering → Type 0
GatheredAt r bytes line g =
    (take r.fill line ≡ g.line) × (is_some r.next ≡ g.ended) × (drop (unwrap_or r.next (length bytes)) bytes ≡ g.rest)
    × (unwrap_or r.next (length bytes) ≤ length bytes) × (r.fill ≤ 601)
