-- Demand 3: each file read from its start gives exactly the book's payloads, in order, with no hole, then end. Assumes nothing.
use Rattle.std.specs.Prelude.{ℕ, ◌≤◌, ◌≡◌, List, [], ◌∷◌, length}
use Rattle.le.specs.Part.{part}
use Rattle.medium.specs.declared.Medium.{Medium}
use Rattle.medium.specs.Refusal.{ok}
use Rattle.handles.specs.declared.Store.{Store}
use Rattle.reader.specs.declared.Reader.{Reader}
use Rattle.reader.specs.Calls.{payload, end, next_call}

-- the calls of next from this reader on, each with an output of any bytes that is long enough: a payload of the list, and then, from the reader that
-- the call handed back, the rest; past the last one the end
unfoldable pub Gives : List ℕ → Medium → Store → Reader → List (List ℕ) → Type 0
Gives vol m st rd [] = (out : List ℕ) → 486 ≤ length out → (next_call vol m st rd out).answer ≡ ok end
Gives vol m st rd (x ∷ xs) =
    (out : List ℕ) → 486 ≤ length out → ((next_call vol m st rd out).answer ≡ ok (payload (length x))) × (part 0 (length x) (next_call vol m st rd out).out ≡ x)
    × Gives vol m st (next_call vol m st rd out).reader xs
