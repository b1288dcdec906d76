-- 02, S-1: "in demand 3's histories where only setting appended to `MARKS`, that is what the reader gave when it was set". So beside the book the points
-- are remembered, each with what its file's reader gave, and reading is to give just that. Assumes nothing.
use Rattle.std.specs.Prelude.{ℕ, ◌<◌, ◌≡◌, ◌≢◌, true, get_or}
use mathlib.Core.List.{List, [], ◌∷◌, ◌++◌, Memᴰ}
use Rattle.le.specs.Choice.{pick}
use Rattle.runs.specs.Run.{same_bytes}
use Rattle.names.specs.Names.{point_ok}
use Rattle.marks.specs.Line.{marks_name}
use Rattle.medium.specs.declared.Medium.{Medium}
use Rattle.medium.specs.Refusal.{ok, refused, on_ok}
use Rattle.medium.specs.Sector.{Readable}
use Rattle.handles.specs.declared.Store.{Store}
use Rattle.plan.specs.Copy.{Skipped, Distinct}
use Rattle.append.specs.declared.Appender.{Appender}
use Rattle.reading.specs.GivesTo.{GivesTo}
use Rattle.reading.specs.GivesUpto.{GivesUpto}
use Rattle.store.specs.Reading.{mount_call, reader_call}
use Rattle.store.specs.Writing.{format_call}
use Rattle.points.specs.Set.{SetTold}
use Rattle.points.specs.Reading.{point_call}
use Rattle.power.specs.Book.{File, Book, new_book}
use Rattle.power.specs.History.{World, is_ok, book_of, Clean, Honest, Premise}
use Rattle.power.specs.Claim.{started}
use Rattle.power.specs.Points.{Pin, forgotten, SparedBy}
use Rattle.hatch.specs.Acts.{Act, call, set_point, read_point, next_upto, lent, set_in, acted, after_acts, calls_of, calls_in}

-- ---- the points of a history

-- a point on the file of a name: the file's id, the number answered, and the file's payloads
unfoldable pub pin_for : List ℕ → List ℕ → ℕ → List File → List Pin
pin_for point name number [] = []
pin_for point name number (f ∷ fs) =
    pick (same_bytes name f.name) (record { name = point; id = f.id; number = number; payloads = f.payloads } ∷ []) (pin_for point name number fs)

-- an accepted setting adds a point, by the book before it
unfoldable pub pinned_by : World → Act → Book → List Pin → List Pin
pinned_by w (set_point left point name) b pins =
    let c : SetTold = (set_in (lent left w) point name).call in
    on_ok c.answer (λ t. pins ++ pin_for point name c.number b.files) (λ n. pins)
pinned_by w (call c) b pins = pins
pinned_by w (read_point point) b pins = pins
pinned_by w (next_upto u out) b pins = pins

-- and after an act that leaves no file `MARKS` there is no point
unfoldable pub pins_of : World → List Act → Book → List Pin → List Pin
pins_of w [] b pins = pins
pins_of w (a ∷ acts) b pins =
    let b' : Book = book_of w (calls_of w a) b in
    pins_of (acted w a) acts b' (forgotten marks_name b'.files (pinned_by w a b pins))

-- ---- the premise: only setting appended to `MARKS`

-- no record of a plain call goes to the file of that name; it may be made, opened, deleted or formatted away
unfoldable pub Spares : World → Act → Book → Type 0
Spares w (call c) b = SparedBy marks_name w c b
Spares w (set_point left point name) b = Unit {0}
Spares w (read_point point) b = Unit {0}
Spares w (next_upto u out) b = Unit {0}

unfoldable pub OnlySet : World → List Act → Book → Type 0
OnlySet w [] b = Unit {0}
OnlySet w (a ∷ acts) b = Spares w a b × OnlySet (acted w a) acts (book_of w (calls_of w a) b)

-- ---- what reading a point gives, by a store value: 9 where it was not set; 15 where no file has its id; else what its file's reader gave, then the end

pub record ReadsAsSet (vol : List ℕ) (m : Medium) (st : Store) (files : List File) (pins : List Pin) (p : List ℕ) : Type 0 where
  pub unknown : ((q : Pin) → Memᴰ q pins → q.name ≢ p) → (point_call vol m st p).answer ≡ refused 9
  pub lost : (q : Pin) → Memᴰ q pins → q.name ≡ p → ((f : File) → Memᴰ f files → f.id ≢ q.id) → (point_call vol m st p).answer ≡ refused 15
  pub given : (q : Pin) → Memᴰ q pins → q.name ≡ p → (f : File) → Memᴰ f files → f.id ≡ q.id
      → ((point_call vol m st p).answer ≡ ok tt) × GivesUpto vol m st (point_call vol m st p).upto q.payloads

-- ---- and what is remembered is what the reader gave: of an accepted setting, the file's reader by the store value given, till it found the end

pub record Gave (w : World) (point name : List ℕ) (files : List File) : Type 0 where
  pub pin : Pin
  pub adds : pin_for point name (set_in w point name).call.number files ≡ pin ∷ []
  pub named : pin.name ≡ point
  pub gave : GivesTo w.vol w.medium w.store (reader_call w.vol w.medium w.store name).reader pin.payloads pin.number

-- in a world: readings by the store value in hand and by a mounted one, and settings with any number of writes left
pub record InMind (w : World) (files : List File) (pins : List Pin) : Type 0 where
  pub reads : (p : List ℕ) → point_ok p ≡ true → (m : Medium) → Readable w.vol m
      → ReadsAsSet w.vol m w.store files pins p × ReadsAsSet w.vol m (mount_call w.vol m).store files pins p
  pub gave : (left : ℕ) (point name : List ℕ) → is_ok (set_in (lent left w) point name).call.answer ≡ true → Gave (lent left w) point name files

-- after any acts
abbrev pub PointsInMind : (Skipped → Type 0) → Type 0
PointsInMind P =
    (vol : List ℕ) (m : Medium) (size seed : ℕ) (ap : Appender) (acts : List Act)
    → ((k : ℕ) → get_or vol k 0 < 256)
    → (format_call vol m size seed).call.answer ≡ ok tt
    → Readable vol m
    → Clean vol (format_call vol m size seed).call.store
    → (let w : World = started (format_call vol m size seed) ap in
    Premise P w (calls_in w acts) → OnlySet w acts new_book
    → InMind (after_acts w acts) (book_of w (calls_in w acts) new_book).files (pins_of w acts new_book []))

abbrev pub AsSet : Type 0
AsSet = PointsInMind Honest

abbrev pub AsSetWeaker : Type 0
AsSetWeaker = PointsInMind Distinct
