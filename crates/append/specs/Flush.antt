-- 01, "Record" and "Link": what an appender writes. On refusal what stands so far; the steps are for 01's book. Assumes nothing.
use Rattle.std.specs.Prelude.{Err, Ok}
use Rattle.std.specs.Prelude.{ℕ, ◌+◌, ◌-◌, Bool, true, false, List, [], ◌∷◌, ◌++◌, eqb, leb, ltb, length, set}
use Rattle.le.specs.Choice.{pick}
use Rattle.le.specs.Part.{part, over}
use Rattle.medium.specs.declared.Error.{Error}
use Rattle.medium.specs.declared.Error.TheVariants.{Corrupt, Full, Stale}
use Rattle.medium.specs.declared.Medium.{Medium}
use Rattle.medium.specs.Refusal.{on_done}
use Rattle.medium.specs.Sector.{WriteOut}
use Rattle.handles.specs.declared.Store.{Store}
use Rattle.handles.specs.Handles.{open_file}
use Rattle.table.specs.Table.{on_pick}
use Rattle.table.specs.Free.{free_of}
use Rattle.record.specs.Record.{number_at, write_record_of}
use Rattle.plan.specs.declared.Edit.TheVariants.{Extend}
use Rattle.plan.specs.Copy.{Skipped, Step, rolled_over, extended, recorded, Out, steps_of}
use Rattle.commit.specs.Commit.{commit_of}
use Rattle.remove.specs.Remove.{GoneOut, remove_oldest_of}
use Rattle.append.specs.declared.Appender.{Appender}
use Rattle.append.specs.declared.Handed.{Handed}
use Rattle.append.specs.declared.Tail.{Tail}
use Rattle.append.specs.declared.Tail.TheVariants.{At, Reopened, Closed}
use Rattle.append.specs.Appender.{dir_bytes}

pub record AppOut : Type 0 where
  pub vol : List ℕ
  pub ans : Handed
  pub steps : List Step

abbrev pub done : List ℕ → Medium → Store → Appender → AppOut
done vol m st ap = record { vol = vol; ans = record { outcome = Ok tt; medium = m; store = st; appender = ap }; steps = [] }

abbrev pub stopped : List ℕ → Medium → Store → Appender → Error → AppOut
stopped vol m st ap e = record { vol = vol; ans = record { outcome = Err e; medium = m; store = st; appender = ap }; steps = [] }

-- the steps made before come first
abbrev pub after : List Step → AppOut → AppOut
after steps o = record { vol = o.vol; ans = o.ans; steps = steps ++ o.steps }

-- one after the other: a refusal ends it with what stands
unfoldable pub and_then : AppOut → (List ℕ → Medium → Store → Appender → AppOut) → AppOut
and_then o next =
    on_done o.ans.outcome (after o.steps (next o.vol o.ans.medium o.ans.store o.ans.appender)) (λ e. o)

-- ---- the same appender, elsewhere

-- in a chunk at a position, its next record by the tail, with so many bytes of the buffer unwritten
abbrev pub standing : Appender → ℕ → ℕ → Tail → ℕ → List ℕ → Appender
standing ap chunk position tail fill buffer =
    record {
      token = ap.token;
      slot = ap.slot;
      id = ap.id;
      chunk = chunk;
      position = position;
      tail = tail;
      fill = fill;
      buffer = buffer;
      rolls = ap.rolls;
      dir = ap.dir;
    }

-- where it is, with other bytes unwritten
abbrev pub holding : Appender → ℕ → List ℕ → Appender
holding ap fill buffer = standing ap ap.chunk ap.position ap.tail fill buffer

-- ---- extending

-- an appender at the start of its next chunk
abbrev pub moved_to : ℕ → Appender → Appender
moved_to c ap = standing ap c (ap.position + 1) (At 0) ap.fill ap.buffer

-- the chunk is linked to the file, and where the old one was reopened that one is marked with its records, in one commit
unfoldable pub link_out : List ℕ → Medium → Store → Appender → Bool → ℕ → ℕ → AppOut
link_out vol m st ap partial records c =
    let o : Out = commit_of (Extend ap.slot ap.position c ap.chunk partial records) [] vol m st in
    record {
      vol = o.vol;
      ans = record { outcome = o.ans.outcome; medium = o.ans.medium; store = o.ans.store; appender = on_done o.ans.outcome (moved_to c ap) (λ e. ap) };
      steps = steps_of extended o;
    }

-- the step of a rollover
abbrev pub rolling : List Skipped → List Step
rolling skipped = (record { kind = rolled_over; skipped = skipped }) ∷ []

-- room is lacking, and the oldest file of the rollover's directory went: what is next follows. None went: 10. Refused, the appender is the one given
abbrev pub after_gone : GoneOut → Appender → (List ℕ → Medium → Store → AppOut) → AppOut
after_gone g ap next =
    on_done g.ans.outcome
    (pick g.ans.any (after (rolling g.skipped) (next g.vol g.ans.medium g.ans.store))
    (stopped g.vol g.ans.medium g.ans.store ap Full))
    (stopped g.vol g.ans.medium g.ans.store ap)

-- no chunk is free: the open file is spared, and extending once more must find one
unfoldable pub rolled_out : List ℕ → Medium → Store → Appender → Bool → ℕ → AppOut
rolled_out vol m st ap partial records =
    after_gone (remove_oldest_of vol m st (dir_bytes ap.dir) (open_file st.writer)) ap
    (λ v n s. on_pick (free_of v n s) (stopped v n s ap) (stopped v n s ap Corrupt) (link_out v n s ap partial records))

-- another chunk. A link has no place for a position past 32,767. No call gets there unless a commit of it leaves a body sector unwritten that does not
-- hold the bytes due there: crate power, `append_near`. On some volumes one does, so the test stays (docs/DECISIONS.md)
unfoldable pub extend_of : List ℕ → Medium → Store → Appender → Bool → ℕ → AppOut
extend_of vol m st ap partial records =
    pick (leb 32767 ap.position) (stopped vol m st ap Corrupt)
    (on_pick (free_of vol m st) (stopped vol m st ap)
    (pick ap.rolls (rolled_out vol m st ap partial records) (stopped vol m st ap Full))
    (link_out vol m st ap partial records))

-- ---- a record

-- record `index` of the chunk is written: the buffer keeps its bytes, with none of them unwritten
abbrev pub filed : ℕ → Appender → Appender
filed index ap = standing ap ap.chunk ap.position (At (index + 1)) 0 ap.buffer

unfoldable pub record_out : ℕ → List ℕ → Medium → Store → Appender → AppOut
record_out index vol m st ap =
    let w : WriteOut = write_record_of vol m st ap.id ap.chunk index (number_at ap.position st.head.chunk index) (part 0 ap.fill ap.buffer) in
    on_done w.ans.outcome
    (after ((record { kind = recorded; skipped = [] }) ∷ []) (done w.vol w.ans.medium st (filed index ap)))
    (stopped w.vol w.ans.medium st ap)

unfoldable pub on_tail : {A : Type 0} → Tail → (ℕ → A) → (ℕ → A) → A → A
on_tail (At i) f g a = f i
on_tail (Reopened n) f g a = g n
on_tail Closed f g a = a

-- at the size, or reopened, the next record first takes another chunk
unfoldable pub write_out : List ℕ → Medium → Store → Appender → AppOut
write_out vol m st ap =
    on_tail ap.tail
    (λ i. pick (ltb i st.head.chunk) (record_out i vol m st ap) (and_then (extend_of vol m st ap false 0) (record_out 0)))
    (λ n. and_then (extend_of vol m st ap true n) (record_out 0))
    (stopped vol m st ap Stale)

-- any error in flushing closes the appender
abbrev pub closed_of : Appender → Appender
closed_of ap = standing ap ap.chunk ap.position Closed ap.fill ap.buffer

abbrev pub closing : AppOut → Error → AppOut
closing o e =
    record {
      vol = o.vol;
      ans = record { outcome = Err e; medium = o.ans.medium; store = o.ans.store; appender = closed_of o.ans.appender };
      steps = o.steps;
    }

unfoldable pub flush_of : List ℕ → Medium → Store → Appender → AppOut
flush_of vol m st ap = let o : AppOut = write_out vol m st ap in on_done o.ans.outcome o (closing o)

-- ---- append and sync

-- with a byte more
abbrev pub pushed : ℕ → Appender → Appender
pushed b ap = holding ap (ap.fill + 1) (set ap.buffer ap.fill b)

-- a byte, and the record that it fills
unfoldable pub put_byte : ℕ → List ℕ → Medium → Store → Appender → AppOut
put_byte b vol m st ap =
    pick (eqb (ap.fill + 1) 486) (flush_of vol m st (pushed b ap)) (done vol m st (pushed b ap))

unfoldable pub append_of : List ℕ → List ℕ → Medium → Store → Appender → AppOut
append_of [] vol m st ap = done vol m st ap
append_of (b ∷ bs) vol m st ap = and_then (put_byte b vol m st ap) (append_of bs)

unfoldable pub sync_of : List ℕ → Medium → Store → Appender → AppOut
sync_of vol m st ap = pick (eqb ap.fill 0) (done vol m st ap) (flush_of vol m st ap)

-- a run of bytes in the buffer, as the code puts them: proofs/Runs says that they go as one by one
abbrev pub with_run : List ℕ → Appender → Appender
with_run bytes ap = holding ap (ap.fill + length bytes) (over ap.fill bytes ap.buffer)

-- the bytes that fit before a record is full
unfoldable pub run_of : ℕ → ℕ → ℕ
run_of fill left = pick (ltb left (486 - fill)) left (486 - fill)
