-- 01, "Directory entry" and refusals 8 to 10: the walk of the directory at a visitor, and the walks that the calls take. A visitor is handed each
-- file's name, so that none reads the volume. Assumes nothing.
use Rattle.std.specs.Prelude.{ℕ, Bool, true, false, not, ◌&&◌, List, eqb, ltb, length, Option, None, Some, Result, Ok, Err, ◌≡◌}
use Rattle.std.specs.Borrow.{Bor}
use Rattle.std.specs.Option.{option_eq, option_or}
use Rattle.le.specs.Choice.{pick}
use Rattle.le.specs.Part.{part}
use Rattle.runs.specs.Run.{same_bytes}
use Rattle.names.specs.Names.{in_dir}
use Rattle.medium.specs.declared.Error.{Error}
use Rattle.medium.specs.declared.Error.TheVariants.{NotFound, Lost}
use Rattle.medium.specs.declared.Medium.{Medium}
use Rattle.handles.specs.declared.Store.{Store}
use Rattle.walk.specs.Walk.{Visit, next, stop, visits}
use Rattle.directory.specs.declared.File.{File}
use Rattle.directory.specs.declared.Found.{Found}
use Rattle.directory.specs.declared.Seen.{Seen}
use Rattle.directory.specs.declared.Old.{Old}
use Rattle.directory.specs.Entry.{entry_at, slot_at}

-- what a walk does: at a refusal, at a free slot, at a file (slot, id, name), at the end
pub record Visitor (S R : Type 0) : Type 0 where
  pub refuse : Error → S → R
  pub free : ℕ → S → Visit S R
  pub file : ℕ → ℕ → List ℕ → S → Visit S R
  pub done : S → R

-- e: the entry's bytes
abbrev pub on_slot : {S R : Type 0} → Visitor S R → (ℕ → List ℕ) → ℕ → S → Result (Option File) Error → Visit S R
on_slot v e i s (Err c) = stop (v.refuse c s)
on_slot v e i s (Ok None) = v.free i s
on_slot v e i s (Ok (Some f)) = v.file i f.id (part 0 f.len (e i)) s

-- the 64 slots in order
abbrev pub scan_of : {S R : Type 0} → Visitor S R → List ℕ → Medium → Store → S → R
scan_of v vol m st s = visits (on_slot v (entry_at vol st)) (slot_at vol m st) v.done 64 0 s

-- a file found
abbrev pub found_at : ℕ → ℕ → Result Found Error
found_at slot id = Ok (record { slot = slot; id = id })

-- the first file, of slots in order, that a test of id and name takes; none is refused so
abbrev pub first : (ℕ → List ℕ → Bool) → Error → Visitor Unit (Result Found Error)
first test none =
    record {
      refuse = λ e s. Err e;
      free = λ i s. next s;
      file = λ i id n s. pick (test id n) (stop (found_at i id)) (next s);
      done = λ s. Err none;
    }

-- what a call of a test may answer is what this test says
abbrev pub Decides : (ℕ → Bor (List ℕ) → Bool → Type 0) → (ℕ → List ℕ → Bool) → Type 0
Decides answers test = (id : ℕ) (name : Bor (List ℕ)) (b : Bool) → answers id name b → b ≡ test id name.now

-- find: the first file of the name; none is 9
abbrev pub finding : List ℕ → Visitor Unit (Result Found Error)
finding name = first (λ _ n. same_bytes name n) NotFound

unfoldable pub find_of : List ℕ → Medium → Store → List ℕ → Result Found Error
find_of vol m st name = scan_of (finding name) vol m st tt

-- 02, S-1: the first file of the id; none is 15
abbrev pub finding_id : ℕ → Visitor Unit (Result Found Error)
finding_id id = first (λ found _. eqb found id) Lost

unfoldable pub find_id_of : List ℕ → Medium → Store → ℕ → Result Found Error
find_id_of vol m st id = scan_of (finding_id id) vol m st tt

-- create's look: whether a file has the name, and the lowest free slot
unfoldable pub free_seen : ℕ → Seen → Seen
free_seen i s = record { exists = s.exists; free = option_or s.free (Some i) }

unfoldable pub file_seen : Bool → Seen → Seen
file_seen same s = pick same (record { exists = true; free = s.free }) s

abbrev pub looking : List ℕ → Visitor Seen (Result Seen Error)
looking name =
    record {
      refuse = λ e s. Err e;
      free = λ i s. next (free_seen i s);
      file = λ i id n s. next (file_seen (same_bytes name n) s);
      done = Ok;
    }

unfoldable pub look_of : List ℕ → Medium → Store → List ℕ → Result Seen Error
look_of vol m st name = scan_of (looking name) vol m st (record { exists = false; free = None })

-- the oldest file in a directory: smallest id, of equal ids the lowest slot; the id that is spared does not go
abbrev pub spares : Option ℕ → ℕ → Bool
spares spared id = option_eq eqb (Some id) spared

-- whether a file of this id is older than the oldest so far
abbrev pub is_older : ℕ → Option Old → Bool
is_older id None = true
is_older id (Some o) = ltb id o.id

unfoldable pub older_of : ℕ → ℕ → ℕ → Bool → Option Old → Option Old
older_of i id len counts s = pick (counts && is_older id s) (Some (record { slot = i; id = id; len = len })) s

abbrev pub seeking : List ℕ → Option ℕ → Visitor (Option Old) (Result (Option Old) Error)
seeking dir spared =
    record {
      refuse = λ e s. Err e;
      free = λ i s. next s;
      file = λ i id n s. next (older_of i id (length n) (in_dir dir n && not (spares spared id)) s);
      done = Ok;
    }

unfoldable pub oldest_of : List ℕ → Medium → Store → List ℕ → Option ℕ → Result (Option Old) Error
oldest_of vol m st dir spared = scan_of (seeking dir spared) vol m st None

-- ---- decisions by what a walk answers. They stay shut in proofs

unfoldable pub on_found : {A : Type 0} → Result Found Error → (Error → A) → (ℕ → ℕ → A) → A
on_found (Err e) f g = f e
on_found (Ok x) f g = g x.slot x.id

-- by the free slot that create's look saw, if any
unfoldable pub on_free : {A : Type 0} → Option ℕ → A → (ℕ → A) → A
on_free None a f = a
on_free (Some slot) a f = f slot

unfoldable pub on_looked : {A : Type 0} → Result Seen Error → (Error → A) → (Seen → A) → A
on_looked (Err e) f g = f e
on_looked (Ok s) f g = g s
