-- The calls on offer to a holder of an appender, in 01's numbers: append, sync, and room, the bytes until a record. Order of refusals of append and
-- sync: 3 on the store value and on the appender, then 11. What a refusal leaves is what stands so far. Assumes nothing.
use Rattle.std.specs.Prelude.{Err, Ok, Result}
use Rattle.medium.specs.declared.Error.{Error}
use Rattle.std.specs.Prelude.{ℕ, ◌-◌, ◌&&◌, List, leb}
use Rattle.le.specs.Choice.{pick}
use Rattle.medium.specs.declared.Error.TheVariants.{Handle, Stale}
use Rattle.medium.specs.declared.Medium.{Medium}
use Rattle.medium.specs.Refusal.{number_of, Answer, ok, refused, on_done, outcome_of}
use Rattle.medium.specs.Sector.{sectors_of}
use Rattle.handles.specs.declared.Store.{Store}
use Rattle.handles.specs.Handles.{store_ok}
use Rattle.plan.specs.Copy.{Step}
use Rattle.append.specs.declared.Appender.{Appender}
use Rattle.append.specs.declared.Handed.{Handed}
use Rattle.append.specs.declared.Room.{Room}
use Rattle.append.specs.declared.Room.TheVariants as room
use Rattle.append.specs.Appender.{appender_ok, live}
use Rattle.append.specs.Flush.{AppOut, stopped, append_of, sync_of}

-- the store value and the appender pass refusal 3, and the appender is the one that this store opened last
unfoldable pub may_write : List ℕ → Store → Appender → Result Unit Error
may_write vol st ap = pick (store_ok st (sectors_of vol) && appender_ok ap st) (pick (live st ap) (Ok tt) (Err Stale)) (Err Handle)

-- what such a call tells, as 01 has it: the answer, the medium record and the handles
pub record AppTold : Type 0 where
  pub answer : Answer (Unit {0})
  pub medium : Medium
  pub store : Store
  pub appender : Appender

abbrev pub app_answer : Handed → AppTold
app_answer r = record { answer = outcome_of r.outcome; medium = r.medium; store = r.store; appender = r.appender }

-- what it gives: the volume, what it tells, and the steps that it made
pub record AppCall : Type 0 where
  pub vol : List ℕ
  pub call : AppTold
  pub steps : List Step

abbrev pub call_of : AppOut → AppCall
call_of o = record { vol = o.vol; call = app_answer o.ans; steps = o.steps }

-- the work, unless the call is refused before it
unfoldable pub offered : List ℕ → Medium → Store → Appender → AppOut → AppCall
offered vol m st ap o = on_done (may_write vol st ap) (call_of o) (λ e. call_of (stopped vol m st ap e))

-- ---- append

unfoldable pub append_call : List ℕ → Medium → Store → Appender → List ℕ → AppCall
append_call vol m st ap bytes = offered vol m st ap (append_of bytes vol m st ap)

-- ---- sync

unfoldable pub sync_call : List ℕ → Medium → Store → Appender → AppCall
sync_call vol m st ap = offered vol m st ap (sync_of vol m st ap)

-- ---- room: bytes until a record is written. A fill past 486 is none that a call gave

abbrev pub room_answer : Room → Answer ℕ
room_answer (room.Refused e) = refused (number_of e)
room_answer (room.Is n) = ok n

unfoldable pub room_call : Appender → Answer ℕ
room_call ap = pick (leb ap.fill 486) (ok (486 - ap.fill)) (refused 3)
