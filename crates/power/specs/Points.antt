-- 02, S-1: what is remembered of a point, and how long. A point has a name, its file's id, the record number at which that file's reader found the end,
-- and what the reader gave till then. The points are those of one file's lines: while a file has its name they stand, and when none has they are gone.
-- All is on 01's book. Assumes nothing.
use Rattle.std.specs.Prelude.{ℕ, ◌≡◌, ◌≢◌, Bool, false, ◌||◌}
use mathlib.Core.List.{List, [], ◌∷◌, Memᴰ}
use Rattle.le.specs.Choice.{pick}
use Rattle.runs.specs.Run.{same_bytes}
use Rattle.plan.specs.Copy.{Kind, formatted, rolled_over, deleted, deleted_oldest, created, extended, recorded}
use Rattle.power.specs.Calls.{Call, mount, format, create, open_append, append, sync, delete, delete_oldest, query}
use Rattle.power.specs.Book.{File, Book, Terms, terms_of, entered, before_steps, written}
use Rattle.power.specs.History.{World, ran, fed_by}

pub record Pin : Type 0 where
  pub name : List ℕ
  pub id : ℕ
  pub number : ℕ
  pub payloads : List (List ℕ)

-- ---- how long

-- a file has the name
unfoldable pub has_name : List ℕ → List File → Bool
has_name name [] = false
has_name name (f ∷ fs) = same_bytes name f.name || has_name name fs

-- where no file has the name of the lines, none is remembered
unfoldable pub forgotten : List ℕ → List File → List Pin → List Pin
forgotten name files pins = pick (has_name name files) pins []

-- through a list of calls none of which sets a point
unfoldable pub pins_after : List ℕ → World → List Call → Book → List Pin → List Pin
pins_after name w [] b pins = pins
pins_after name w (c ∷ cs) b pins =
    let b' : Book = written c (fed_by w c) b in
    pins_after name (ran w c).world cs b' (forgotten name b'.files pins)

-- ---- the premise: only settings put records into a file of the name

-- of a step: a record does not go to such a file
unfoldable pub Missed : List ℕ → Kind → Book → Type 0
Missed name recorded b = (f : File) → Memᴰ f b.files → f.id ≡ b.file → f.name ≢ name
Missed name formatted b = Unit {0}
Missed name rolled_over b = Unit {0}
Missed name deleted_oldest b = Unit {0}
Missed name deleted b = Unit {0}
Missed name created b = Unit {0}
Missed name extended b = Unit {0}

-- of the steps of a call, each on the book as those before it left it
unfoldable pub Spared : List ℕ → Terms → List Kind → Book → Type 0
Spared name t [] b = Unit {0}
Spared name t (k ∷ ks) b = Missed name k b × Spared name t ks (entered t k b)

-- of a call, and of a list of calls
abbrev pub SparedBy : List ℕ → World → Call → Book → Type 0
SparedBy name w c b = Spared name (terms_of c (fed_by w c).open_file b) (fed_by w c).kinds (before_steps c b)

unfoldable pub SparedAll : List ℕ → World → List Call → Book → Type 0
SparedAll name w [] b = Unit {0}
SparedAll name w (c ∷ cs) b = SparedBy name w c b × SparedAll name (ran w c).world cs (written c (fed_by w c) b)

-- ---- no accepted format

unfoldable pub begins : Call → Bool → Bool
begins (format m size seed) accepted = accepted
begins (mount m) accepted = false
begins (create rules left name rolls dir) accepted = false
begins (open_append rules left name rolls dir) accepted = false
begins (append left bytes) accepted = false
begins (sync left) accepted = false
begins (delete left name) accepted = false
begins (delete_oldest left dir) accepted = false
begins (query q) accepted = false

unfoldable pub Unbroken : World → List Call → Type 0
Unbroken w [] = Unit {0}
Unbroken w (c ∷ cs) = (begins c (ran w c).accepted ≡ false) × Unbroken (ran w c).world cs
