-- The numbers in which answers, handles and the medium record cross to another language. Assumes nothing.
use Rattle.std.specs.Prelude.{None, Option, Some, ℕ, ◌%◌, Bool, true, false, not, List, [], ◌∷◌, eqb, get_or, Result, Ok, Err}
use Rattle.le.specs.Choice.{pick}
use Rattle.le.specs.Part.{part}
use Rattle.medium.specs.declared.Medium.{Medium}
use Rattle.medium.specs.declared.Error.{Error}
use Rattle.medium.specs.Refusal.{Answer, ok, refused, number_of}
use Rattle.freemap.specs.declared.FreeMap.{FreeMap}
use Rattle.handles.specs.declared.Header.{Header}
use Rattle.handles.specs.Handles.{opened_by}
use Rattle.handles.specs.declared.Store.{Store}
use Rattle.handles.specs.declared.Writer.{Writer}
use Rattle.reader.specs.declared.Reader.{Reader}
use Rattle.reader.specs.Calls.{Item, payload, hole, end}

-- 0, or the number of a refusal
abbrev pub code_of : {A : Type 0} → Answer A → ℕ
code_of (ok a) = 0
code_of (refused n) = n

-- the same of what the code answers
abbrev pub refusal_of : {A : Type 0} → Result A Error → ℕ
refusal_of (Ok a) = 0
refusal_of (Err e) = number_of e

-- the low 32 bits
abbrev pub narrow_of : ℕ → ℕ
narrow_of x = x % 4294967296

unfoldable pub medium_of : List ℕ → Medium
medium_of w = record { left = narrow_of (get_or w 0 0); unreadable = get_or w 1 0; entropy = get_or w 2 0; token = narrow_of (get_or w 3 0) }

unfoldable pub medium_words : Medium → List ℕ
medium_words m = m.left ∷ m.unreadable ∷ m.entropy ∷ m.token ∷ []

unfoldable pub writer_of : ℕ → ℕ → ℕ → Option Writer
writer_of kind token id = pick (eqb kind 0) None (opened_by (narrow_of token) (narrow_of id))

abbrev pub head_of : List ℕ → List ℕ → Header
head_of w crcs =
    record {
      id = get_or w 1 0;
      generation = get_or w 2 0;
      next_id = narrow_of (get_or w 3 0);
      cursor = narrow_of (get_or w 4 0);
      chunks = narrow_of (get_or w 5 0);
      chunk = narrow_of (get_or w 6 0);
      crcs = crcs;
    }

-- S-3: the map of free chunks
unfoldable pub map_in : List ℕ → FreeMap
map_in w = record { fit = not (eqb (get_or w 10 0) 0); words = part 11 32 w }

unfoldable pub store_of : List ℕ → List ℕ → Store
store_of w crcs =
    record { copy = get_or w 0 0; head = head_of w crcs; writer = writer_of (get_or w 7 0) (get_or w 8 0) (get_or w 9 0); free = map_in w }

abbrev pub writer_words : Option Writer → List ℕ → List ℕ
writer_words None l = 0 ∷ 0 ∷ 0 ∷ l
writer_words (Some w) l = 1 ∷ w.token ∷ w.id ∷ l

abbrev pub flag_of : Bool → ℕ
flag_of true = 1
flag_of false = 0

-- the numbers before the words of the map, and those after them
unfoldable pub row_words : Store → List ℕ → List ℕ
row_words s l =
    s.copy ∷ s.head.id ∷ s.head.generation ∷ s.head.next_id ∷ s.head.cursor ∷ s.head.chunks ∷ s.head.chunk
    ∷ writer_words s.writer (flag_of s.free.fit ∷ l)

unfoldable pub store_words : Store → List ℕ
store_words s = row_words s s.free.words

-- the slot and the id of a file that was found
abbrev pub found_words : Answer (ℕ × ℕ) → List ℕ
found_words (ok found) = found.0 ∷ found.1 ∷ 0 ∷ []
found_words (refused n) = 0 ∷ 0 ∷ 0 ∷ []

unfoldable pub end_at : ℕ → ℕ → Option ℕ
end_at kind records = pick (eqb kind 0) None (Some (narrow_of records))

unfoldable pub reader_of : List ℕ → Reader
reader_of w =
    record {
      store = get_or w 0 0;
      generation = get_or w 1 0;
      slot = get_or w 2 0;
      id = narrow_of (get_or w 3 0);
      chunks = narrow_of (get_or w 4 0);
      chunk = narrow_of (get_or w 5 0);
      end = end_at (get_or w 6 0) (get_or w 7 0);
      position = narrow_of (get_or w 8 0);
      index = narrow_of (get_or w 9 0);
    }

abbrev pub end_words : Option ℕ → List ℕ → List ℕ
end_words None l = 0 ∷ 0 ∷ l
end_words (Some n) l = 1 ∷ n ∷ l

unfoldable pub reader_words : Reader → List ℕ
reader_words r =
    r.store ∷ r.generation ∷ r.slot ∷ r.id ∷ r.chunks ∷ r.chunk ∷ end_words r.end (r.position ∷ r.index ∷ [])

-- what next found
abbrev pub item_words : Answer Item → List ℕ
item_words (ok (payload n)) = 1 ∷ n ∷ 0 ∷ 0 ∷ []
item_words (ok (hole from to blank)) = 2 ∷ from ∷ to ∷ blank ∷ []
item_words (ok end) = 0 ∷ 0 ∷ 0 ∷ 0 ∷ []
item_words (refused n) = 0 ∷ 0 ∷ 0 ∷ 0 ∷ []

abbrev pub number_words : Answer ℕ → List ℕ
number_words (ok n) = n ∷ 0 ∷ 0 ∷ []
number_words (refused n) = 0 ∷ 0 ∷ 0 ∷ []
