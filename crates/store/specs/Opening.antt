-- The calls on offer that open a file to append: create and open_append. First as 01 has them; order of refusals: 3 on the store value, 1 on the name, 1
-- on the directory of a rollover that is set, then state. Then as they are since S-5: 16 on the name comes behind these, before any read. Refused by the
-- input, the store comes back as given, with an appender that no call accepts. Assumes nothing.
use Rattle.std.specs.Prelude.{Err, Ok, Result}
use Rattle.medium.specs.declared.Error.{Error}
use Rattle.std.specs.Prelude.{ℕ, Bool, not, ◌&&◌, ◌||◌, List, length}
use Rattle.le.specs.Choice.{pick}
use Rattle.le.specs.Part.{over, zeros}
use Rattle.names.specs.Names.{name_ok, dir_ok, dotted}
use Rattle.medium.specs.declared.Error.TheVariants.{Dotted}
use Rattle.medium.specs.declared.Medium.{Medium}
use Rattle.medium.specs.Refusal.{on_done}
use Rattle.handles.specs.declared.Store.{Store}
use Rattle.append.specs.Calls.{AppCall, call_of}
use Rattle.append.specs.Flush.{AppOut}
use Rattle.files.specs.declared.Rollover.{Rollover}
use Rattle.files.specs.Opened.{refused_at}
use Rattle.files.specs.Create.{create_of}
use Rattle.reopen.specs.Reopen.{reopen_of}
use Rattle.store.specs.Asked.{asked_of}

-- a directory that is not set is not tested
abbrev pub open_fine : List ℕ → Bool → List ℕ → Bool
open_fine name rolls dir = name_ok name && (not rolls || dir_ok dir)

-- and counts for nothing
unfoldable pub rollover_of : Bool → List ℕ → Rollover
rollover_of rolls dir =
    record {
      rolls = rolls;
      dir = pick rolls (record { bytes = over 0 dir (zeros 40); length = length dir }) (record { bytes = zeros 40; length = 0 });
    }

-- the work, unless the call is refused before it
unfoldable pub opening : List ℕ → Medium → Store → List ℕ → Bool → List ℕ → (Rollover → AppOut) → AppCall
opening vol m st name rolls dir work =
    call_of (on_done (asked_of vol st (open_fine name rolls dir)) (work (rollover_of rolls dir)) (refused_at vol m st))

-- ---- 01's create, and its open_append, which writes nothing

unfoldable pub create_earlier : List ℕ → Medium → Store → List ℕ → Bool → List ℕ → AppCall
create_earlier vol m st name rolls dir = opening vol m st name rolls dir (λ roll. create_of name roll vol m st)

unfoldable pub open_earlier : List ℕ → Medium → Store → List ℕ → Bool → List ℕ → AppCall
open_earlier vol m st name rolls dir = opening vol m st name rolls dir (λ roll. reopen_of name roll vol m st)

-- ---- S-5: "16 when create or open_append gets such a name, after 1 and before any read"

unfoldable pub admitted_of : List ℕ → Store → List ℕ → Bool → List ℕ → Result Unit Error
admitted_of vol st name rolls dir = on_done (asked_of vol st (open_fine name rolls dir)) (pick (dotted name) (Err Dotted) (Ok tt)) Err

-- the call as it was, where its input is admitted
unfoldable pub if_admitted : List ℕ → Medium → Store → List ℕ → Bool → List ℕ → AppCall → AppCall
if_admitted vol m st name rolls dir call = on_done (admitted_of vol st name rolls dir) call (λ e. call_of (refused_at vol m st e))

unfoldable pub create_call : List ℕ → Medium → Store → List ℕ → Bool → List ℕ → AppCall
create_call vol m st name rolls dir = if_admitted vol m st name rolls dir (create_earlier vol m st name rolls dir)

unfoldable pub open_call : List ℕ → Medium → Store → List ℕ → Bool → List ℕ → AppCall
open_call vol m st name rolls dir = if_admitted vol m st name rolls dir (open_earlier vol m st name rolls dir)
