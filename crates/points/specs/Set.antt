-- 02, S-1: setting a point. Tests and reads come first; then `MARKS` is made if absent, else opened, with no rollover, and the line is appended and
-- synced. It is made of the definitions of the calls that it makes, and nothing else. Assumes nothing.
use Rattle.std.specs.Prelude.{ℕ, Bool, true, false, List, [], Result, Ok, Err, is_some, unwrap_or}
use Rattle.std.specs.Result.{result_unwrap_or}
use Rattle.le.specs.Choice.{pick}
use Rattle.marks.specs.Line.{marks_name, line_of}
use Rattle.medium.specs.declared.Error.{Error}
use Rattle.medium.specs.declared.Medium.{Medium}
use Rattle.medium.specs.Refusal.{Answer, ok, refused, number_of, on_done, on_ok}
use Rattle.handles.specs.declared.Store.{Store}
use Rattle.append.specs.declared.Appender.{Appender}
use Rattle.append.specs.Appender.{no_appender}
use Rattle.append.specs.Calls.{AppTold, AppCall, append_call, sync_call}
use Rattle.store.specs.Asked.{asked_name}
use Rattle.store.specs.Opening.{create_call, open_call}
use Rattle.points.specs.declared.Marked.{Marked}
use Rattle.points.specs.Look.{asked_point, on_place, look_of, end_of}

-- what setting tells. `opened`: `MARKS` was opened, so that the appender is its own, and an appender from before is stale
pub record SetTold : Type 0 where
  pub answer : Answer (Unit {0})
  pub number : ℕ
  pub opened : Bool
  pub medium : Medium
  pub store : Store
  pub appender : Appender

-- an accepted setting has the number set, and one that opened `MARKS` its appender
abbrev pub set_answer : Result ℕ Error → Answer Unit
set_answer (Ok n) = ok tt
set_answer (Err e) = refused (number_of e)

abbrev pub marked_answer : Marked → SetTold
marked_answer r =
    record {
      answer = set_answer r.outcome;
      number = result_unwrap_or r.outcome 0;
      opened = is_some r.appender;
      medium = r.medium;
      store = r.store;
      appender = unwrap_or r.appender no_appender;
    }

pub record SetCall : Type 0 where
  pub vol : List ℕ
  pub call : SetTold

-- refused before `MARKS` is opened: nothing was written, all handles are as given, and there is no appender
abbrev pub not_set : List ℕ → Medium → Store → ℕ → SetCall
not_set vol m st n =
    record { vol = vol; call = record { answer = refused n; number = 0; opened = false; medium = m; store = st; appender = no_appender } }

-- by the last call made: what it leaves, and the number where it was accepted
abbrev pub told_by : Bool → ℕ → AppTold → SetTold
told_by opened number c =
    record {
      answer = c.answer;
      number = on_ok c.answer (λ t. number) (λ n. 0);
      opened = opened;
      medium = c.medium;
      store = c.store;
      appender = c.appender;
    }

abbrev pub set_by : Bool → ℕ → AppCall → SetCall
set_by opened number c = record { vol = c.vol; call = told_by opened number c.call }

-- `MARKS` made if absent, else opened, with no rollover
unfoldable pub open_of : Bool → List ℕ → Medium → Store → AppCall
open_of fresh vol m st = pick fresh (create_call vol m st marks_name false []) (open_call vol m st marks_name false [])

-- the call after one of an appender, with what that left
abbrev pub then_append : List ℕ → AppCall → AppCall
then_append bytes c = append_call c.vol c.call.medium c.call.store c.call.appender bytes

abbrev pub then_sync : AppCall → AppCall
then_sync c = sync_call c.vol c.call.medium c.call.store c.call.appender

-- opened, appended, synced: the first refused call is the last
unfoldable pub mark_of : Bool → List ℕ → ℕ → List ℕ → Medium → Store → SetCall
mark_of fresh bytes number vol m st =
    let o : AppCall = open_of fresh vol m st in
    let a : AppCall = then_append bytes o in
    on_ok o.call.answer
    (λ t. on_ok a.call.answer (λ t. set_by true number (then_sync a)) (λ n. set_by true number a))
    (λ n. set_by false number o)

-- the file read to its end, then the line; `fresh`: there is no `MARKS` yet
unfoldable pub set_from : Bool → List ℕ → Medium → Store → List ℕ → List ℕ → SetCall
set_from fresh vol m st p name =
    on_ok (end_of vol m st name) (λ e. mark_of fresh (line_of p e.0 e.1) e.1 vol m st) (not_set vol m st)

-- 3, 1, 13; then 14, before the file is looked for
unfoldable pub set_call : List ℕ → Medium → Store → List ℕ → List ℕ → SetCall
set_call vol m st p name =
    on_done (asked_point (asked_name vol st name) p)
    (on_ok (look_of vol m st p)
    (λ l. on_place l (set_from true vol m st p name) (set_from false vol m st p name) (λ id n. not_set vol m st 14))
    (not_set vol m st))
    (λ e. not_set vol m st (number_of e))
