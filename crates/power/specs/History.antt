-- Demand 3: a history is a list of calls. Each gets the volume as left and the store value, appender and medium record last returned. What a call gives
-- is what the definitions say that the contracts of the calls cite, and nothing else: mount_call, format_call, create_call, open_call, append_call,
-- sync_call, delete_call, oldest_call, list_call, find_call, reader_call, next_call and seek_call; and for the creates and openings from before S-5 what their
-- contracts cited then, create_earlier and open_earlier. They may be mixed with later ones in any order. Assumes nothing.
use Rattle.std.specs.Prelude.{None, Option as Open, Some}
use Rattle.std.specs.Prelude.{ℕ, ◌<◌, ◌≡◌, Bool, true, false, List, [], ◌∷◌, map}
use Rattle.std.proofs.Math.Option.{Option, none, some}
use Rattle.medium.specs.declared.Medium.{Medium}
use Rattle.medium.specs.Refusal.{Answer, ok, refused}
use Rattle.medium.specs.Sector.{sector_at, Readable}
use Rattle.handles.specs.declared.Store.{Store}
use Rattle.handles.specs.declared.Writer.{Writer}
use Rattle.record.specs.Record.{carries_of, data_at}
use Rattle.plan.specs.Copy.{Skipped, EachSkipped, Step}
use Rattle.append.specs.declared.Appender.{Appender}
use Rattle.append.specs.Calls.{AppCall, append_call, sync_call}
use Rattle.reader.specs.Calls.{NextCall, next_call, SeekCall, seek_call}
use Rattle.store.specs.Reading.{StoreCall, mount_call, FindCall, find_call, ListCall, list_call, ReaderCall, reader_call}
use Rattle.store.specs.Writing.{WriteCall, format_call, delete_call, OldestCall, oldest_call}
use Rattle.store.specs.Opening.{create_earlier, open_earlier, create_call, open_call}
use Rattle.power.specs.Calls.{Query, list, find, reader, next, seek}
use Rattle.power.specs.Calls.{Rules, earlier, present, Call, mount, format, create, open_append, append, sync, delete, delete_oldest, query}
use Rattle.power.specs.Book.{Book, Fed, written}

-- the volume as left, and the handles last returned
pub record World : Type 0 where
  pub vol : List ℕ
  pub store : Store
  pub appender : Appender
  pub medium : Medium

-- what a call leaves, and what it tells the book: whether it was accepted, and its steps
pub record Ran : Type 0 where
  pub world : World
  pub accepted : Bool
  pub steps : List Step

abbrev pub is_ok : {A : Type 0} → Answer A → Bool
is_ok (ok a) = true
is_ok (refused n) = false

-- the handle returned, where the call was accepted, else the one there was
unfoldable pub if_ok : {A B : Type 0} → Answer A → B → B → B
if_ok (ok a) new old = new
if_ok (refused n) new old = old

abbrev pub with_left : ℕ → Medium → Medium
with_left left m = record { left = left; unreadable = m.unreadable; entropy = m.entropy; token = m.token }

-- a mount writes nothing and makes no step
abbrev pub ran_mount : World → StoreCall → Ran
ran_mount w c =
    record {
      world = record { vol = w.vol; store = c.store; appender = w.appender; medium = c.medium };
      accepted = is_ok c.answer;
      steps = [];
    }

-- a refused format hands back no store
abbrev pub ran_format : World → WriteCall → Ran
ran_format w c =
    record {
      world = record { vol = c.vol; store = if_ok c.call.answer c.call.store w.store; appender = w.appender; medium = c.call.medium };
      accepted = is_ok c.call.answer;
      steps = c.steps;
    }

abbrev pub ran_delete : World → WriteCall → Ran
ran_delete w c =
    record {
      world = record { vol = c.vol; store = c.call.store; appender = w.appender; medium = c.call.medium };
      accepted = is_ok c.call.answer;
      steps = c.steps;
    }

abbrev pub ran_oldest : World → OldestCall → Ran
ran_oldest w c =
    record {
      world = record { vol = c.vol; store = c.call.store; appender = w.appender; medium = c.call.medium };
      accepted = is_ok c.call.answer;
      steps = c.steps;
    }

-- a refused create or open_append hands back no appender
abbrev pub ran_create : World → AppCall → Ran
ran_create w c =
    record {
      world = record { vol = c.vol; store = c.call.store; appender = if_ok c.call.answer c.call.appender w.appender; medium = c.call.medium };
      accepted = is_ok c.call.answer;
      steps = c.steps;
    }

-- open_append writes nothing and makes no step
abbrev pub ran_reopen : World → AppCall → Ran
ran_reopen w c =
    record {
      world = record { vol = w.vol; store = c.call.store; appender = if_ok c.call.answer c.call.appender w.appender; medium = c.call.medium };
      accepted = is_ok c.call.answer;
      steps = [];
    }

abbrev pub ran_append : AppCall → Ran
ran_append c =
    record {
      world = record { vol = c.vol; store = c.call.store; appender = c.call.appender; medium = c.call.medium };
      accepted = is_ok c.call.answer;
      steps = c.steps;
    }

-- a call that only reads hands the medium record back
abbrev pub ran_reading : World → Medium → Bool → Ran
ran_reading w m accepted =
    record { world = record { vol = w.vol; store = w.store; appender = w.appender; medium = m }; accepted = accepted; steps = [] }

unfoldable pub answered : World → Query → Ran
answered w (list dir counts rows) = let c : ListCall = list_call w.vol w.medium w.store dir counts rows in ran_reading w c.medium (is_ok c.answer)
answered w (find name) = let c : FindCall = find_call w.vol w.medium w.store name in ran_reading w c.medium (is_ok c.answer)
answered w (reader name) = let c : ReaderCall = reader_call w.vol w.medium w.store name in ran_reading w c.medium (is_ok c.answer)
answered w (next rd out) = let c : NextCall = next_call w.vol w.medium w.store rd out in ran_reading w c.medium (is_ok c.answer)
answered w (seek rd number) = let c : SeekCall = seek_call w.vol w.medium w.store rd number in ran_reading w c.medium (is_ok c.answer)

-- S-5: "creates and openings from before this request, by the rules then in force"
abbrev pub create_by : Rules → List ℕ → Medium → Store → List ℕ → Bool → List ℕ → AppCall
create_by earlier = create_earlier
create_by present = create_call

abbrev pub open_by : Rules → List ℕ → Medium → Store → List ℕ → Bool → List ℕ → AppCall
open_by earlier = open_earlier
open_by present = open_call

unfoldable pub ran : World → Call → Ran
ran w (mount m) = ran_mount w (mount_call w.vol m)
ran w (format m size seed) = ran_format w (format_call w.vol m size seed)
ran w (create rules left name rolls dir) = ran_create w (create_by rules w.vol (with_left left w.medium) w.store name rolls dir)
ran w (open_append rules left name rolls dir) = ran_reopen w (open_by rules w.vol (with_left left w.medium) w.store name rolls dir)
ran w (append left bytes) = ran_append (append_call w.vol (with_left left w.medium) w.store w.appender bytes)
ran w (sync left) = ran_append (sync_call w.vol (with_left left w.medium) w.store w.appender)
ran w (delete left name) = ran_delete w (delete_call w.vol (with_left left w.medium) w.store name)
ran w (delete_oldest left dir) = ran_oldest w (oldest_call w.vol (with_left left w.medium) w.store dir)
ran w (query q) = answered w q

-- ---- the book of a history

-- the open file is the writer's in the store value that the call is given
abbrev pub open_of : Open Writer → Option ℕ
open_of None = none
open_of (Some w) = some w.id

unfoldable pub fed_by : World → Call → Fed
fed_by w c = record { accepted = (ran w c).accepted; kinds = map (λ (s : Step). s.kind) (ran w c).steps; open_file = open_of w.store.writer }

unfoldable pub after : World → List Call → World
after w [] = w
after w (c ∷ cs) = after (ran w c).world cs

unfoldable pub book_of : World → List Call → Book → Book
book_of w [] b = b
book_of w (c ∷ cs) b = book_of (ran w c).world cs (written c (fed_by w c) b)

-- ---- premises

-- no data sector of a store passes as a record of its id, whatever file and number it has
abbrev pub Clean : List ℕ → Store → Type 0
Clean vol st = (c i : ℕ) → c < st.head.chunks → i < st.head.chunk → carries_of st.head.id (sector_at vol (data_at st c i)) ≡ false

-- of a mount or format: the record given; of an accepted format: the data sectors of its store as they were given
unfoldable pub Given : World → Call → Type 0
Given w (mount m) = Readable w.vol m
Given w (format m size seed) =
    Readable w.vol m × (is_ok (format_call w.vol m size seed).call.answer ≡ true → Clean w.vol (format_call w.vol m size seed).call.store)
Given w (create rules left name rolls dir) = Unit
Given w (open_append rules left name rolls dir) = Unit
Given w (append left bytes) = Unit
Given w (sync left) = Unit
Given w (delete left name) = Unit
Given w (delete_oldest left dir) = Unit
Given w (query q) = Unit

-- of each body sector that a finished commit left unwritten
unfoldable pub EachStep : (Skipped → Type 0) → List Step → Type 0
EachStep P [] = Unit
EachStep P (s ∷ ss) = EachSkipped P s.skipped × EachStep P ss

-- demand 3's words: it held the bytes due there. The theorem is proved under a weaker premise, `Distinct`: if the checksums are equal, the bytes are
abbrev pub Honest : Skipped → Type 0
Honest s = s.held ≡ s.due

unfoldable pub Premise : (Skipped → Type 0) → World → List Call → Type 0
Premise P w [] = Unit
Premise P w (c ∷ cs) = Given w c × EachStep P (ran w c).steps × Premise P (ran w c).world cs
