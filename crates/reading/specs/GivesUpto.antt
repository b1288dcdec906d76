-- S-1: a file read up to a record number. Assumes nothing.
use Rattle.std.specs.Prelude.{ℕ, ◌≤◌, ◌≡◌, List, [], ◌∷◌, length}
use Rattle.le.specs.Part.{part}
use Rattle.medium.specs.declared.Medium.{Medium}
use Rattle.medium.specs.Refusal.{ok}
use Rattle.handles.specs.declared.Store.{Store}
use Rattle.reader.specs.declared.Upto.{Upto}
use Rattle.reader.specs.Calls.{payload, end}
use Rattle.reader.specs.Upto.{below_call}

-- the calls of next on a reader up to a number: these payloads, no hole, then the end
unfoldable pub GivesUpto : List ℕ → Medium → Store → Upto → List (List ℕ) → Type 0
GivesUpto vol m st u [] = (out : List ℕ) → 486 ≤ length out → (below_call vol m st u out).answer ≡ ok end
GivesUpto vol m st u (x ∷ xs) =
    (out : List ℕ) → 486 ≤ length out → ((below_call vol m st u out).answer ≡ ok (payload (length x))) × (part 0 (length x) (below_call vol m st u out).out ≡ x)
    × GivesUpto vol m st (below_call vol m st u out).upto xs
