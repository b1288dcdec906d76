-- 01, "Book", from that section's words alone. It is fed the calls' arguments and of each call its refusal, the kinds of its steps in order, and the
-- open file. The medium records, readers and lent bytes among the arguments it never looks at, so it knows of no sector, slot, header or handle.
-- Assumes nothing.
use Rattle.std.specs.Prelude.{ℕ, ◌+◌, ◌-◌, min, Bool, false, not, ◌&&◌, List, [], ◌∷◌, ◌++◌, map, eqb, take, drop}
use Rattle.std.proofs.Math.Option.{Option, none, some}
use Rattle.le.specs.Choice.{pick}
use Rattle.runs.specs.Run.{same_bytes}
use Rattle.names.specs.Names.{in_dir}
use Rattle.plan.specs.Copy.{Kind, formatted, rolled_over, deleted, deleted_oldest, created, extended, recorded}
use Rattle.power.specs.Calls.{Call, mount, format, create, open_append, append, sync, delete, delete_oldest, query}

pub record File : Type 0 where
  pub name : List ℕ
  pub id : ℕ
  pub chunks : ℕ
  pub payloads : List (List ℕ)

-- next id, files, the appender's file by its id, its rollover directory where one is set, and its unwritten bytes
pub record Book : Type 0 where
  pub next : ℕ
  pub files : List File
  pub file : ℕ
  pub rollover : Option (List ℕ)
  pub unwritten : List ℕ

-- what the book is fed of a call
pub record Fed : Type 0 where
  pub accepted : Bool
  pub kinds : List Kind
  pub open_file : Option ℕ

-- ---- files

unfoldable pub keep : (File → Bool) → List File → List File
keep p [] = []
keep p (f ∷ fs) = pick (p f) (f ∷ keep p fs) (keep p fs)

-- one file changes: the one with this id
unfoldable pub on_file : ℕ → (File → File) → List File → List File
on_file id u fs = map (λ f. pick (eqb f.id id) (u f) f) fs

abbrev pub with_chunk : File → File
with_chunk f = record { name = f.name; id = f.id; chunks = f.chunks + 1; payloads = f.payloads }

abbrev pub with_payload : List ℕ → File → File
with_payload x f = record { name = f.name; id = f.id; chunks = f.chunks; payloads = f.payloads ++ (x ∷ []) }

-- the file that 10 picks: the smallest id of those in the directory, one of them spared
unfoldable pub is_spared : Option ℕ → ℕ → Bool
is_spared none id = false
is_spared (some kept) id = eqb kept id

unfoldable pub may_go : List ℕ → Option ℕ → File → Bool
may_go dir spared f = in_dir dir f.name && not (is_spared spared f.id)

unfoldable pub smallest : List File → Option ℕ
smallest [] = none
smallest (f ∷ fs) = smaller (smallest fs)
  where
    smaller : Option ℕ → Option ℕ
    smaller none = some f.id
    smaller (some id) = some (min f.id id)

unfoldable pub without_id : Option ℕ → List File → List File
without_id none fs = fs
without_id (some id) fs = keep (λ f. not (eqb f.id id)) fs

-- from no directory none goes
unfoldable pub without_oldest : Option (List ℕ) → Option ℕ → List File → List File
without_oldest none spared fs = fs
without_oldest (some dir) spared fs = without_id (smallest (keep (may_go dir spared) fs)) fs

unfoldable pub without_name : List ℕ → List File → List File
without_name name fs = keep (λ f. not (same_bytes name f.name)) fs

-- the id of the file with a name; 0 where there is none
unfoldable pub id_of : List ℕ → List File → ℕ
id_of name [] = 0
id_of name (f ∷ fs) = pick (same_bytes name f.name) f.id (id_of name fs)

-- ---- steps

-- a rollover's directory counts only where the rollover is set
abbrev pub if_set : Bool → List ℕ → Option (List ℕ)
if_set rolls dir = pick rolls (some dir) none

-- what a call's steps go by: its name, the directory that a file goes from, if any, and the file spared there. Extending and delete_oldest spare the
-- open file; create's rollover spares none
pub record Terms : Type 0 where
  pub name : List ℕ
  pub dir : Option (List ℕ)
  pub spared : Option ℕ

abbrev pub no_terms : Terms
no_terms = record { name = []; dir = none; spared = none }

unfoldable pub terms_of : Call → Option ℕ → Book → Terms
terms_of (create rules left name rolls dir) writer b = record { name = name; dir = if_set rolls dir; spared = none }
terms_of (append left bytes) writer b = record { name = []; dir = b.rollover; spared = writer }
terms_of (sync left) writer b = record { name = []; dir = b.rollover; spared = writer }
terms_of (delete left name) writer b = record { name = name; dir = none; spared = none }
terms_of (delete_oldest left dir) writer b = record { name = []; dir = some dir; spared = writer }
terms_of (mount m) writer b = no_terms
terms_of (format m size seed) writer b = no_terms
terms_of (open_append rules left name rolls dir) writer b = no_terms
terms_of (query q) writer b = no_terms

abbrev pub with_files : List File → Book → Book
with_files fs b = record { next = b.next; files = fs; file = b.file; rollover = b.rollover; unwritten = b.unwritten }

-- a file more: its name, the next id (then 1 more), one chunk, no payload
abbrev pub with_new : List ℕ → Book → Book
with_new name b =
    record {
      next = b.next + 1;
      files = b.files ++ ((record { name = name; id = b.next; chunks = 1; payloads = [] }) ∷ []);
      file = b.file;
      rollover = b.rollover;
      unwritten = b.unwritten;
    }

-- the first 486 unwritten bytes, or all if fewer, become the appender's file's next payload
abbrev pub with_record : Book → Book
with_record b =
    record {
      next = b.next;
      files = on_file b.file (with_payload (take 486 b.unwritten)) b.files;
      file = b.file;
      rollover = b.rollover;
      unwritten = drop 486 b.unwritten;
    }

unfoldable pub entered : Terms → Kind → Book → Book
entered t formatted b = record { next = 1; files = []; file = b.file; rollover = b.rollover; unwritten = b.unwritten }
entered t rolled_over b = with_files (without_oldest t.dir t.spared b.files) b
entered t deleted_oldest b = with_files (without_oldest t.dir t.spared b.files) b
entered t deleted b = with_files (without_name t.name b.files) b
entered t created b = with_new t.name b
entered t extended b = with_files (on_file b.file with_chunk b.files) b
entered t recorded b = with_record b

unfoldable pub entered_all : Terms → List Kind → Book → Book
entered_all t [] b = b
entered_all t (k ∷ ks) b = entered_all t ks (entered t k b)

-- ---- calls

-- append puts its bytes after the unwritten ones before its steps
unfoldable pub before_steps : Call → Book → Book
before_steps (append left bytes) b =
    record { next = b.next; files = b.files; file = b.file; rollover = b.rollover; unwritten = b.unwritten ++ bytes }
before_steps (mount m) b = b
before_steps (format m size seed) b = b
before_steps (create rules left name rolls dir) b = b
before_steps (open_append rules left name rolls dir) b = b
before_steps (sync left) b = b
before_steps (delete left name) b = b
before_steps (delete_oldest left dir) b = b
before_steps (query q) b = b

-- an accepted create or open_append sets the appender's file and rollover directory, or none, with nothing unwritten
abbrev pub opened_for : ℕ → Option (List ℕ) → Book → Book
opened_for id dir b = record { next = b.next; files = b.files; file = id; rollover = dir; unwritten = [] }

unfoldable pub after_steps : Call → Book → Book
after_steps (create rules left name rolls dir) b = opened_for (b.next - 1) (if_set rolls dir) b
after_steps (open_append rules left name rolls dir) b = opened_for (id_of name b.files) (if_set rolls dir) b
after_steps (mount m) b = b
after_steps (format m size seed) b = b
after_steps (append left bytes) b = b
after_steps (sync left) b = b
after_steps (delete left name) b = b
after_steps (delete_oldest left dir) b = b
after_steps (query q) b = b

-- of a refused call only its steps stand
unfoldable pub written : Call → Fed → Book → Book
written c fed b =
    let b' : Book = entered_all (terms_of c fed.open_file b) fed.kinds (before_steps c b) in
    pick fed.accepted (after_steps c b') b'

-- after the format that a history starts with
abbrev pub new_book : Book
new_book = record { next = 1; files = []; file = 0; rollover = none; unwritten = [] }
