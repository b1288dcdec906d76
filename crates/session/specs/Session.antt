-- 01, "Hosts", the line program: what a line does to the volume and to what the program holds, and what it is answered. Assumes nothing.
use Rattle.std.specs.Prelude.{ℕ, Bool, true, false, List, [], Result, Ok, Err}
use Rattle.le.specs.Choice.{pick}
use Rattle.le.specs.Part.{zeros}
use Rattle.words.specs.Words.{Rollover, no_rollover, rollover, Line, format, create, append, sync, delete, list, other, line_of}
use Rattle.medium.specs.declared.Error.{Error}
use Rattle.medium.specs.declared.Error.TheVariants.{Uninitialized, Stale}
use Rattle.medium.specs.declared.Medium.{Medium}
use Rattle.medium.specs.Refusal.{Answer, number_of, on_ok}
use Rattle.handles.specs.declared.Store.{Store}
use Rattle.handles.specs.Handles.{no_store}
use Rattle.append.specs.declared.Appender.{Appender}
use Rattle.append.specs.Appender.{no_appender}
use Rattle.append.specs.Calls.{AppCall, append_call, sync_call, room_call}
use Rattle.store.specs.Reading.{ListCall, list_call}
use Rattle.store.specs.Writing.{WriteCall, format_call, delete_call}
use Rattle.store.specs.Opening.{create_call}
use Rattle.session.specs.declared.Session.{Session}
use Rattle.session.specs.declared.Reply.{Reply}
use Rattle.session.specs.declared.Reply.TheVariants.{Number, Rows}
use Rattle.session.specs.declared.Told.{Told}

-- ---- what is answered

-- `ok` and a number; `ok` and the number of rows that follow; `no` and the refusal
pub data Said : Type 0 where
  ok : ℕ → Said
  listed : ℕ → Said
  no : ℕ → Said

abbrev pub said_of : Result Reply Error → Said
said_of (Ok (Number n)) = ok n
said_of (Ok (Rows n)) = listed n
said_of (Err e) = no (number_of e)

-- ---- what is held: entropy 0, nothing unreadable, all writes allowed

abbrev pub all_writes : ℕ
all_writes = 4294967295

unfoldable pub start_of : Session
start_of =
    record {
      store = no_store;
      appender = no_appender;
      medium = record { left = all_writes; unreadable = 18446744073709551615; entropy = 0; token = 0 };
      formatted = false;
      created = false;
    }

-- for each line anew
unfoldable pub allowed_of : Session → Session
allowed_of s =
    record {
      store = s.store;
      appender = s.appender;
      medium = record { left = all_writes; unreadable = s.medium.unreadable; entropy = s.medium.entropy; token = s.medium.token };
      formatted = s.formatted;
      created = s.created;
    }

-- the handles that a call gave
abbrev pub held_of : Session → Store → Appender → Medium → Session
held_of s st ap m = record { store = st; appender = ap; medium = m; formatted = s.formatted; created = s.created }

-- the store of an accepted format, the appender of an accepted create
abbrev pub formatted_of : Session → Store → Medium → Session
formatted_of s st m = record { store = st; appender = s.appender; medium = m; formatted = true; created = s.created }

abbrev pub created_of : Session → Store → Appender → Medium → Session
created_of s st ap m = record { store = st; appender = ap; medium = m; formatted = s.formatted; created = true }

-- ---- what a line gives: the volume, what is held, the answer

pub record Turn : Type 0 where
  pub vol : List ℕ
  pub session : Session
  pub said : Said

abbrev pub turn : List ℕ → Session → Said → Turn
turn vol s a = record { vol = vol; session = s; said = a }

abbrev pub turn_of : List ℕ → Told → Turn
turn_of vol r = turn vol r.session (said_of r.reply)

-- ---- `format` size seed: chunks. Refused, the old store stays

unfoldable pub format_line : List ℕ → Session → ℕ → ℕ → Turn
format_line vol s size seed =
    let r : WriteCall = format_call vol s.medium size seed in
    on_ok r.call.answer
    (λ _. turn r.vol (formatted_of s r.call.store r.call.medium) (ok r.call.store.head.chunks))
    (λ n. turn r.vol (held_of s s.store s.appender r.call.medium) (no n))

-- ---- `create` name, directory (`-` for no rollover): id. Refused, the old appender stays

abbrev pub rolls : Rollover → Bool
rolls no_rollover = false
rolls (rollover dir) = true

abbrev pub dir_of : Rollover → List ℕ
dir_of no_rollover = []
dir_of (rollover dir) = dir

abbrev pub opened : Session → AppCall → Turn
opened s r =
    on_ok r.call.answer
    (λ _. turn r.vol (created_of s r.call.store r.call.appender r.call.medium) (ok r.call.appender.id))
    (λ n. turn r.vol (held_of s r.call.store s.appender r.call.medium) (no n))

unfoldable pub create_line : List ℕ → Session → List ℕ → Rollover → Turn
create_line vol s name over = opened s (create_call vol s.medium s.store name (rolls over) (dir_of over))

-- ---- `append` text, `sync`: bytes until a record

abbrev pub room_said : Answer Unit → Answer ℕ → Said
room_said a room = on_ok a (λ _. on_ok room ok no) no

abbrev pub appended : Session → AppCall → Turn
appended s r = turn r.vol (held_of s r.call.store r.call.appender r.call.medium) (room_said r.call.answer (room_call r.call.appender))

unfoldable pub append_line : List ℕ → Session → List ℕ → Turn
append_line vol s text = appended s (append_call vol s.medium s.store s.appender text)

unfoldable pub sync_line : List ℕ → Session → Turn
sync_line vol s = appended s (sync_call vol s.medium s.store s.appender)

-- ---- `delete` name: 0

unfoldable pub delete_line : List ℕ → Session → List ℕ → Turn
delete_line vol s name =
    let r : WriteCall = delete_call vol s.medium s.store name in
    turn r.vol (held_of s r.call.store s.appender r.call.medium) (on_ok r.call.answer (λ _. ok 0) no)

-- ---- `list`: rows, which follow; and the lent rows after it

unfoldable pub list_line : List ℕ → Session → List ℕ → Turn × List ℕ
list_line vol s rows =
    let r : ListCall = list_call vol s.medium s.store [] (zeros 64) rows in
    (turn vol (held_of s s.store s.appender r.medium) (on_ok r.answer (λ _. listed r.made) no), r.rows)

-- ---- a line: 2 for another form first; any other word before an accepted format 5; append or sync before an accepted create 11

abbrev pub refusing : List ℕ → Session → ℕ → Turn
refusing vol s n = turn vol s (no n)

unfoldable pub after_format : List ℕ → Session → Turn → Turn
after_format vol s t = pick s.formatted t (refusing vol s 5)

unfoldable pub after_create : List ℕ → Session → Turn → Turn
after_create vol s t = after_format vol s (pick s.created t (refusing vol s 11))

-- the store of a word that needs one, and the handles of append and sync: or the refusal before an accepted format and before an accepted create
unfoldable pub store_of : Session → Result Store Error
store_of s = pick s.formatted (Ok s.store) (Err Uninitialized)

unfoldable pub handles_of : Session → Result (Store × Appender) Error
handles_of s = pick s.formatted (pick s.created (Ok (s.store, s.appender)) (Err Stale)) (Err Uninitialized)

unfoldable pub line_step : List ℕ → Session → List ℕ → Line → Turn × List ℕ
line_step vol s rows other = (refusing vol s 2, rows)
line_step vol s rows (format size seed) = (format_line vol s size seed, rows)
line_step vol s rows (create name over) = (after_format vol s (create_line vol s name over), rows)
line_step vol s rows (append text) = (after_create vol s (append_line vol s text), rows)
line_step vol s rows sync = (after_create vol s (sync_line vol s), rows)
line_step vol s rows (delete name) = (after_format vol s (delete_line vol s name), rows)
line_step vol s rows list = pick s.formatted (list_line vol s rows) (refusing vol s 5, rows)

-- a line of any bytes, without its line feed, over the lent rows
unfoldable pub step_of : List ℕ → Session → List ℕ → List ℕ → Turn × List ℕ
step_of vol s rows line = line_step vol (allowed_of s) rows (line_of line)
