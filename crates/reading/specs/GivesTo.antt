-- S-1: a file read from its start to the end, with the record number at which the reader then stands. Assumes nothing.
use Rattle.std.specs.Prelude.{ℕ, ◌≤◌, ◌≡◌, List, [], ◌∷◌, length}
use Rattle.le.specs.Part.{part}
use Rattle.medium.specs.declared.Medium.{Medium}
use Rattle.medium.specs.Refusal.{ok}
use Rattle.handles.specs.declared.Store.{Store}
use Rattle.reader.specs.declared.Reader.{Reader}
use Rattle.reader.specs.Calls.{payload, end, next_call}
use Rattle.reader.specs.Upto.{stands_at}

-- as Gives, and the reader that came back with the end stands at this number
unfoldable pub GivesTo : List ℕ → Medium → Store → Reader → List (List ℕ) → ℕ → Type 0
GivesTo vol m st rd [] n =
    (out : List ℕ) → 486 ≤ length out → ((next_call vol m st rd out).answer ≡ ok end) × (stands_at st (next_call vol m st rd out).reader ≡ n)
GivesTo vol m st rd (x ∷ xs) n =
    (out : List ℕ) → 486 ≤ length out → ((next_call vol m st rd out).answer ≡ ok (payload (length x))) × (part 0 (length x) (next_call vol m st rd out).out ≡ x)
    × GivesTo vol m st (next_call vol m st rd out).reader xs n
