-- 02, S-1, in demand 3: a history with settings and readings of points loses no batch either, since each counts as the calls that it makes; and "after
-- a power stop a point is wholly there or absent". Assumes nothing.
use Rattle.std.specs.Prelude.{ℕ, ◌<◌, ◌≡◌, ◌↔◌, ◌≢◌, Bool, true, false, List, [], ◌∷◌, ◌++◌, get_or, Option, Some, None}
use Rattle.le.specs.Choice.{pick}
use Rattle.runs.specs.Run.{same_bytes}
use Rattle.marks.specs.declared.Mark.{Mark}
use Rattle.marks.specs.Line.{marks_name, line_of, says_of}
use Rattle.medium.specs.declared.Medium.{Medium}
use Rattle.medium.specs.Refusal.{ok, on_ok}
use Rattle.medium.specs.Sector.{Readable}
use Rattle.plan.specs.Copy.{Skipped, Distinct}
use Rattle.append.specs.declared.Appender.{Appender}
use Rattle.store.specs.Writing.{format_call}
use Rattle.points.specs.Look.{end_of}
use Rattle.power.specs.Calls.{Call}
use Rattle.power.specs.Book.{File, Book, without_name, new_book}
use Rattle.power.specs.History.{World, is_ok, ran, after, book_of, Clean, Honest, Premise}
use Rattle.power.specs.Claim.{Holds, started}
use Rattle.hatch.specs.Acts.{Act, set_point, lent, set_in, after_acts, setting_calls, calls_in}

-- ---- an act counts as the calls that it makes

-- two worlds are alike but for the writes left, which every call that can write gets anew
abbrev pub Alike : World → World → Type 0
Alike w v = lent 0 w ≡ lent 0 v

abbrev pub CountsAsCalls : Type 0
CountsAsCalls = (w : World) (acts : List Act) → Alike (after_acts w acts) (after w (calls_in w acts))

-- which of the calls are accepted
unfoldable pub accepts : World → List Call → List Bool
accepts w [] = []
accepts w (c ∷ cs) = (ran w c).accepted ∷ accepts (ran w c).world cs

-- a setting is accepted exactly if three calls were made, `MARKS` opened, the line appended and synced, and each was accepted
abbrev pub SetByCalls : Type 0
SetByCalls =
    (w : World) (point name : List ℕ) → is_ok (set_in w point name).call.answer ≡ true ↔ accepts w (setting_calls w point name) ≡ true ∷ true ∷ true ∷ []

-- ---- demand 3 of acts

-- as power/Claim `NoBatchLost`, with acts for calls
abbrev pub NoBatchLostActs : (Skipped → Type 0) → Type 0
NoBatchLostActs P =
    (vol : List ℕ) (m : Medium) (size seed : ℕ) (ap : Appender) (acts : List Act)
    → ((k : ℕ) → get_or vol k 0 < 256)
    → (format_call vol m size seed).call.answer ≡ ok tt
    → Readable vol m
    → Clean vol (format_call vol m size seed).call.store
    → (let w : World = started (format_call vol m size seed) ap in Premise P w (calls_in w acts)
    → Holds (after_acts w acts).vol (book_of w (calls_in w acts) new_book))

-- in the customer's words
abbrev pub Demand3Acts : Type 0
Demand3Acts = NoBatchLostActs Honest

-- and under the weaker premise, so it says more
abbrev pub Demand3ActsWeaker : Type 0
Demand3ActsWeaker = NoBatchLostActs Distinct

-- ---- a power stop

-- the payloads of the file `MARKS`; none where there is no such file
unfoldable pub marks_in : List File → List (List ℕ)
marks_in [] = []
marks_in (f ∷ fs) = pick (same_bytes marks_name f.name) f.payloads (marks_in fs)

abbrev pub marks_of : Book → List (List ℕ)
marks_of b = marks_in b.files

-- the files with another name: their names, ids, chunk counts and payloads
abbrev pub others_of : Book → List File
others_of b = without_name marks_name b.files

-- the line of a point that is set on a file: with the file's id, and the number at which its reader found the end
unfoldable pub line_for : World → List ℕ → List ℕ → List ℕ
line_for w point name = on_ok (end_of w.vol w.medium w.store name) (λ e. line_of point e.0 e.1) (λ n. [])

-- what the records of `MARKS` say of a point: the first of them that says anything
unfoldable pub or_next : Option Mark → Option Mark → Option Mark
or_next None k = k
or_next (Some said) k = Some said

unfoldable pub first_of : (List ℕ → Option Mark) → List (List ℕ) → Option Mark
first_of says [] = None
first_of says (x ∷ xs) = or_next (says x) (first_of says xs)

-- what a setting in a world leaves of the book: the line of the point stands in `MARKS`, behind the others, exactly if the setting was accepted. Refused,
-- `MARKS` may be there, empty, or have a chunk more, but no line of it. All other files are as they were, and so is what `MARKS` says of every other point
pub record WhollyOrNot (w : World) (point name : List ℕ) (before after : Book) : Type 0 where
  pub there : is_ok (set_in w point name).call.answer ≡ true → marks_of after ≡ marks_of before ++ (line_for w point name ∷ [])
  pub absent : is_ok (set_in w point name).call.answer ≡ false → marks_of after ≡ marks_of before
  pub others : others_of after ≡ others_of before
  pub points : (q : List ℕ) → q ≢ point → first_of (says_of q) (marks_of after) ≡ first_of (says_of q) (marks_of before)

-- after any acts, of a setting with any number of writes left: the power may stop at each of them
abbrev pub PointsStand : (Skipped → Type 0) → Type 0
PointsStand P =
    (vol : List ℕ) (m : Medium) (size seed : ℕ) (ap : Appender) (acts : List Act) (left : ℕ) (point name : List ℕ)
    → ((k : ℕ) → get_or vol k 0 < 256)
    → (format_call vol m size seed).call.answer ≡ ok tt
    → Readable vol m
    → Clean vol (format_call vol m size seed).call.store
    → (let w : World = started (format_call vol m size seed) ap in
    let more : List Act = acts ++ (set_point left point name ∷ []) in
    Premise P w (calls_in w more)
    → WhollyOrNot (lent left (after_acts w acts)) point name (book_of w (calls_in w acts) new_book) (book_of w (calls_in w more) new_book))

abbrev pub PowerStop : Type 0
PowerStop = PointsStand Honest

abbrev pub PowerStopWeaker : Type 0
PowerStopWeaker = PointsStand Distinct
