-- The invariant of demand 3: what holds between the calls of a history of the volume, the store value, the appender and the book. It speaks of a
-- layout G, which segments the file of each slot has, that stands nowhere in the store.
use Rattle.std.specs.Prelude.{None, Option, Some}
use Prim.Native.Nat.{ℕ, ◌+◌, ◌<◌, ◌≤◌}
use mathlib.Core.Path.{◌≡◌, ap}
use mathlib.Core.Logic.{◌≢◌}
use mathlib.Core.Bool.{true, false}
use mathlib.Core.List.{List, [], ◌∷◌, ◌++◌, Memᴰ}
use lib.ListN.{length}
use Rattle.le.specs.Part.{part}
use Rattle.le.specs.Tally.{tally}
use Rattle.medium.specs.Sector.{Readable}
use Rattle.names.specs.Names.{dir_ok}
use Rattle.handles.specs.declared.Store.{Store}
use Rattle.handles.specs.declared.Writer.{Writer}
use Rattle.append.specs.declared.Appender.{Appender}
use Rattle.append.specs.declared.Tail.{Tail}
use Rattle.append.specs.declared.Tail.TheVariants.{At, Reopened, Closed}
use Rattle.append.specs.Appender.{dir_bytes, is_closed}
use Rattle.safe.specs.Inv.{Inv}
use Rattle.layout.specs.Views.{Disk, named, disk_of}
use Rattle.layout.specs.Segments.{Segment, segment_at, payloads_of, Good}
use Rattle.folds.specs.Rows.{listed_in}
use Rattle.power.specs.Book.{File, Book, if_set}
use Rattle.power.specs.History.{World}
use Rattle.power.proofs.Fine.{Fine, forget}
use Rattle.power.proofs.Parts.{Parted}
use Rattle.table.proofs.Tells.{Mapped}

-- ---- the files of the book and the directory

-- the file of a slot, as the book has it
abbrev pub file_of : List ℕ → ℕ → List Segment → File
file_of name id g = record { name = name; id = id; chunks = length g; payloads = payloads_of g }

-- no two files of a list have one id
abbrev pub Apart : List File → Type 0
Apart [] = Unit {0}
Apart (f ∷ fs) = ((g : File) → Memᴰ g fs → f.id ≢ g.id) × Apart fs

-- each named slot is a file of the book, each file of the book a named slot, no two of them have one id, and there are as many
pub record Ties (D : Disk) (G : ℕ → List Segment) (files : List File) : Type 0 where
  pub into : (s : ℕ) (name : List ℕ) (id : ℕ) → s < 64 → D.entry s ≡ named name id → Memᴰ (file_of name id (G s)) files
  pub from : (f : File) → Memᴰ f files → (s : ℕ) × (s < 64) × (D.entry s ≡ named f.name f.id) × (f ≡ file_of f.name f.id (G s))
  pub apart : Apart files
  pub many : length files ≡ tally (λ s. listed_in [] (D.entry s)) 64

-- all but the appender
pub record Whole (vol : List ℕ) (st : Store) (G : ℕ → List Segment) (b : Fine) : Type 0 where
  pub inv : Inv vol st
  pub map : Mapped vol st
  pub good : Good (disk_of vol st) G
  pub ties : Ties (disk_of vol st) G b.files
  pub parts : Parted (disk_of vol st) G b.parts
  pub next : b.next ≡ st.head.next_id
  pub ids : b.ids ≡ st.head.next_id
  pub size : b.size ≡ st.head.chunk

-- ---- the appender

-- where the next record goes, of a last segment with n payloads
abbrev pub TailAt : Tail → ℕ → ℕ → Type 0
TailAt (At i) n size = i ≡ n
TailAt (Reopened r) n size = (r ≡ n) × (r ≢ size) × (1 ≤ r)
TailAt Closed n size = ⊥

-- an open appender stands at the end of its file, and the book's unwritten bytes are those in its buffer, and what of the call is still to come
pub record Stands (vol : List ℕ) (st : Store) (ap : Appender) (G : ℕ → List Segment) (b : Fine) (rest : List ℕ) : Type 0 where
  pub name : List ℕ
  pub below : ap.slot < 64
  pub entry : (disk_of vol st).entry ap.slot ≡ named name ap.id
  pub last : ap.position + 1 ≡ length (G ap.slot)
  pub chunk : ap.chunk ≡ (segment_at (G ap.slot) ap.position).chunk
  pub tail : TailAt ap.tail (length (segment_at (G ap.slot) ap.position).payloads) st.head.chunk
  pub buffer : length ap.buffer ≡ 486
  pub file : b.file ≡ ap.id
  pub rollover : b.rollover ≡ if_set ap.rolls (dir_bytes ap.dir)
  pub fine : ap.rolls ≡ true → (ap.dir.length ≤ 40) × (dir_ok (dir_bytes ap.dir) ≡ true)
  pub unwritten : b.unwritten ≡ part 0 ap.fill ap.buffer ++ rest

-- the store has no writer, or its writer is this appender; and unless it is closed it stands. Its fill is that of a record not yet full
abbrev pub Writes : Option Writer → Appender → Type 0 → Type 0
Writes None ap P = Unit {0}
Writes (Some w) ap P = (w.token ≡ ap.token) × (w.id ≡ ap.id) × (is_closed ap.tail ≡ false → P)

pub record Owns (vol : List ℕ) (st : Store) (ap : Appender) (G : ℕ → List Segment) (b : Fine) : Type 0 where
  pub writes : Writes st.writer ap (Stands vol st ap G b [] × (ap.fill < 486))

-- ---- between the calls

pub record Keeps (w : World) (b : Fine) : Type 0 where
  pub layout : ℕ → List Segment
  pub whole : Whole w.vol w.store layout b
  pub owns : Owns w.vol w.store w.appender layout b
  pub readable : Readable w.vol w.medium

-- 01's book: some finer one that forgets to it is kept
pub record Booked (w : World) (b : Book) : Type 0 where
  pub fine : Fine
  pub same : forget fine ≡ b
  pub keeps : Keeps w fine

pub same_files : {w : World} {b : Book} (k : Booked w b) → k.fine.files ≡ b.files
same_files k = ap (λ (x : Book). x.files) k.same
