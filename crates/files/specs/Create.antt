-- 01, "Directory entry" and refusals 7 to 12: create. Refused, the store is that of the last finished commit. Assumes nothing.
use Rattle.std.specs.Prelude.{◌≡◌, ℕ, zero, suc, ◌-◌, ◌^◌, true, false, List, ◌==◌, None}
use Rattle.le.specs.Choice.{pick}
use Rattle.medium.specs.declared.Error.TheVariants.{Corrupt, Exists, Full, Spent}
use Rattle.medium.specs.declared.Medium.{Medium}
use Rattle.medium.specs.Refusal.{on_done}
use Rattle.handles.specs.declared.Store.{Store}
use Rattle.directory.specs.Scan.{look_of, on_free, on_looked}
use Rattle.table.specs.Table.{on_pick}
use Rattle.table.specs.Free.{free_of}
use Rattle.plan.specs.declared.Edit.TheVariants.{Create}
use Rattle.plan.specs.Copy.{created, Skipped, Out, steps_of}
use Rattle.commit.specs.Commit.{commit_of}
use Rattle.remove.specs.Remove.{remove_oldest_of}
use Rattle.append.specs.declared.Tail.TheVariants.{At}
use Rattle.append.specs.Appender.{dir_bytes, no_appender}
use Rattle.append.specs.Flush.{AppOut, after, rolling, after_gone}
use Rattle.files.specs.declared.Rollover.{Rollover}
use Rattle.files.specs.declared.Turn.{Turn}
use Rattle.files.specs.Opened.{refused_at, opened_out}

-- what follows where a file went to make room
abbrev pub Next : Type 0
Next = List ℕ → Medium → Store → AppOut

-- the entry and the first link in one commit; the last id is refused before it
unfoldable pub make_out : List ℕ → Rollover → List ℕ → Medium → Store → ℕ → ℕ → AppOut
make_out name rollover vol m st slot chunk =
    let id : ℕ = st.head.next_id in
    let o : Out = commit_of (Create slot id chunk) name vol m st in
    pick (id == 2 ^ 32 - 1) (refused_at vol m st Spent)
    (on_done o.ans.outcome
    (after (steps_of created o) (opened_out o.vol o.ans.medium o.ans.store slot id chunk 0 (At 0) rollover))
    (refused_at o.vol o.ans.medium o.ans.store))

-- a slot or chunk is lacking: the oldest file of the rollover's directory goes, whichever is open, and then `next`
unfoldable pub over_out : Rollover → Next → List ℕ → Medium → Store → AppOut
over_out rollover next vol m st =
    pick rollover.rolls (after_gone (remove_oldest_of vol m st (dir_bytes rollover.dir) None) no_appender next) (refused_at vol m st Full)

-- one round: all of the directory is looked through, and the table only if a slot is free
unfoldable pub round_out : List ℕ → Rollover → Next → List ℕ → Medium → Store → AppOut
round_out name rollover next vol m st =
    on_looked (look_of vol m st name) (refused_at vol m st)
    (λ s. pick s.exists (refused_at vol m st Exists)
    (on_free s.free (over_out rollover next vol m st)
    (λ slot. on_pick (free_of vol m st) (refused_at vol m st) (over_out rollover next vol m st) (make_out name rollover vol m st slot))))

-- two rounds; rolled over twice is 7
unfoldable pub create_from : ℕ → List ℕ → Rollover → List ℕ → Medium → Store → AppOut
create_from zero name rollover vol m st = refused_at vol m st Corrupt
create_from (suc n) name rollover vol m st = round_out name rollover (create_from n name rollover) vol m st

abbrev pub create_of : List ℕ → Rollover → List ℕ → Medium → Store → AppOut
create_of = create_from 2

-- for the functions inside: a round settles the call, or what is next follows from what stands
pub record Turned (v : List ℕ) (r : Turn) (o : Next → AppOut) : Type 0 where
  pub ended : r.again ≡ false → (next : Next) → (v ≡ (o next).vol) × (r.answer ≡ (o next).ans)
  pub again : r.again ≡ true → (skipped : List Skipped) × ((next : Next) → o next ≡ after (rolling skipped) (next v r.answer.medium r.answer.store))
