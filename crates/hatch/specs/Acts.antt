-- 02, S-1: "in demand 3, setting or reading a point counts as the calls that it makes". So a history has settings and readings beside demand 3's calls.
-- Each leaves what its own definition says (points/Set `set_call`, points/Reading `point_call`, reader/Upto `below_call`), and for each stand here the calls
-- that it makes. Calls that only read are not listed: they change neither the world nor the book (power/Queries `query_world`, `query_book`).
-- Assumes nothing.
use Rattle.std.specs.Prelude.{ℕ, Bool, true, false, List, [], ◌∷◌, ◌++◌}
use Rattle.le.specs.Choice.{pick}
use Rattle.marks.specs.Line.{marks_name, line_of}
use Rattle.medium.specs.declared.Medium.{Medium}
use Rattle.medium.specs.Refusal.{on_done, on_ok}
use Rattle.reader.specs.declared.Upto.{Upto}
use Rattle.reader.specs.Upto.{below_call}
use Rattle.store.specs.Asked.{asked_name}
use Rattle.points.specs.Look.{asked_point, on_place, look_of, end_of}
use Rattle.points.specs.Set.{SetCall, set_call}
use Rattle.points.specs.Reading.{point_call}
use Rattle.power.specs.Calls.{present, Call, create, open_append, append, sync}
use Rattle.power.specs.History.{World, with_left, ran}

-- a setting gets its writes left anew, as a call that can write; a read up to a point gets any such reader
pub data Act : Type 0 where
  call : Call → Act
  set_point : (left : ℕ) (point name : List ℕ) → Act
  read_point : (point : List ℕ) → Act
  next_upto : (u : Upto) (out : List ℕ) → Act

-- ---- what an act leaves

abbrev pub with_medium : Medium → World → World
with_medium m w = record { vol = w.vol; store = w.store; appender = w.appender; medium = m }

-- the world that a call is given which gets its writes left anew
abbrev pub lent : ℕ → World → World
lent left w = with_medium (with_left left w.medium) w

abbrev pub set_in : World → List ℕ → List ℕ → SetCall
set_in w point name = set_call w.vol w.medium w.store point name

-- the appender that comes back is `MARKS`' own, where it was opened; else the one there was is still the one
abbrev pub after_set : World → SetCall → World
after_set w c =
    record { vol = c.vol; store = c.call.store; appender = pick c.call.opened c.call.appender w.appender; medium = c.call.medium }

unfoldable pub acted : World → Act → World
acted w (call c) = (ran w c).world
acted w (set_point left point name) = after_set w (set_in (lent left w) point name)
acted w (read_point point) = with_medium (point_call w.vol w.medium w.store point).medium w
acted w (next_upto u out) = with_medium (below_call w.vol w.medium w.store u out).medium w

unfoldable pub after_acts : World → List Act → World
after_acts w [] = w
after_acts w (a ∷ acts) = after_acts (acted w a) acts

-- ---- the calls that an act makes

-- a call, and where it is accepted those behind it, in the world that it leaves
unfoldable pub then_calls : World → Call → (World → List Call) → List Call
then_calls w c next = c ∷ pick (ran w c).accepted (next (ran w c).world) []

-- `MARKS` made if absent, else opened, with no rollover. By the rules from before S-5 these are the same calls (proofs/Acts
-- `opening_either`)
unfoldable pub opening_call : Bool → ℕ → Call
opening_call fresh left = pick fresh (create present left marks_name false []) (open_append present left marks_name false [])

-- opened, appended, synced: the first refused call is the last, and each gets the writes that the one before it left
unfoldable pub line_calls : Bool → List ℕ → World → List Call
line_calls fresh bytes w =
    then_calls w (opening_call fresh w.medium.left)
    (λ o. then_calls o (append o.medium.left bytes)
    (λ a. sync a.medium.left ∷ []))

unfoldable pub from_end : Bool → World → List ℕ → List ℕ → List Call
from_end fresh w point name =
    on_ok (end_of w.vol w.medium w.store name) (λ e. line_calls fresh (line_of point e.0 e.1) w) (λ n. [])

-- decided as `set_call` decides: refused before `MARKS` is opened, a setting has only read
unfoldable pub setting_calls : World → List ℕ → List ℕ → List Call
setting_calls w point name =
    on_done (asked_point (asked_name w.vol w.store name) point)
    (on_ok (look_of w.vol w.medium w.store point)
    (λ l. on_place l (from_end true w point name) (from_end false w point name) (λ id n. []))
    (λ n. []))
    (λ e. [])

unfoldable pub calls_of : World → Act → List Call
calls_of w (call c) = c ∷ []
calls_of w (set_point left point name) = setting_calls (lent left w) point name
calls_of w (read_point point) = []
calls_of w (next_upto u out) = []

-- of each act, in the world that it is given
unfoldable pub calls_in : World → List Act → List Call
calls_in w [] = []
calls_in w (a ∷ acts) = calls_of w a ++ calls_in (acted w a) acts
