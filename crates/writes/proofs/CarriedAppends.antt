-- Each part of append, sync and create carries more writes through: another chunk, a record, a rollover, a new file. Assumes nothing.
use Rattle.std.specs.Prelude.{Option, Some, None, Result, Ok, Err}
use Prim.Native.Nat.{ℕ, zero, suc, ◌+◌, ◌-◌, ◌^◌}
use mathlib.Core.Path.{refl}
use mathlib.Core.Bool.{Bool, true, false}
use mathlib.Core.List.{List, [], ◌∷◌}
use lib.Dec.{eqb, leb, ltb}
use Rattle.std.specs.Prelude.{Option, None, Some, Result, Ok, Err}
use Rattle.directory.specs.declared.Seen.{Seen}
use Rattle.le.specs.Choice.{pick}
use Rattle.le.specs.Part.{part}
use Rattle.medium.specs.declared.Error.{Error}
use Rattle.medium.specs.declared.Error.TheVariants.{Corrupt, Exists, Full, Stale}
use Rattle.medium.specs.declared.Medium.{Medium}
use Rattle.medium.specs.Refusal.{on_done}
use Rattle.medium.specs.Sector.{read_of}
use Rattle.handles.specs.declared.Store.{Store}
use Rattle.handles.specs.Body.{check_of, due_of}
use Rattle.handles.specs.Handles.{open_file}
use Rattle.directory.specs.Entry.{slot_at}
use Rattle.directory.specs.Scan.{look_of, on_looked, on_free}
use Rattle.table.specs.Link.{link_at}
use Rattle.table.specs.Table.{on_pick, walk_free_of}
use Rattle.table.specs.Free.{checked_of, free_of}
use Rattle.record.specs.Record.{data_at, record_of, number_at}
use Rattle.plan.specs.declared.Edit.TheVariants.{Create, Extend}
use Rattle.plan.specs.Copy.{Step, extended, recorded, created, steps_of}
use Rattle.remove.specs.Remove.{GoneOut}
use Rattle.append.specs.declared.Appender.{Appender}
use Rattle.append.specs.declared.Tail.{Tail}
use Rattle.append.specs.declared.Tail.TheVariants.{At, Reopened, Closed}
use Rattle.append.specs.Appender.{dir_bytes, no_appender}
use Rattle.append.specs.Flush.{AppOut, done, stopped, after, and_then, moved_to, link_out, rolling, after_gone, rolled_out, extend_of, filed, record_out, on_tail, write_out, closing, flush_of, pushed, put_byte, append_of, sync_of}
use Rattle.files.specs.declared.Rollover.{Rollover}
use Rattle.files.specs.Opened.{refused_at, opened_out}
use Rattle.files.specs.Create.{Next, make_out, over_out, round_out, create_from}
use Rattle.writes.specs.More.{more}
use Rattle.writes.proofs.Carries.{Holder, alone, Carries, still, given, inside, either, both, onward}
use Rattle.writes.proofs.CarriedCopies.{gone, write_carries, commit_carries, oldest_carries}

abbrev pub handed : Holder AppOut
handed =
    record {
      held = λ o. o.ans.medium;
      raised = λ d o.
          record {
            vol = o.vol;
            ans = record { outcome = o.ans.outcome; medium = more d o.ans.medium; store = o.ans.store; appender = o.ans.appender };
            steps = o.steps;
          };
    }

module _ {d : ℕ} where
  -- ---- one after the other

  after_carries : (steps : List Step) {f : Medium → AppOut} → Carries d alone handed f → Carries d alone handed (λ m. after steps (f m))
  after_carries steps p = both (after steps) p (still (λ o. refl) (λ o. refl))

  then_carries : {f : Medium → AppOut} (next : List ℕ → Medium → Store → Appender → AppOut)
      → Carries d alone handed f → ((v : List ℕ) (s : Store) (a : Appender) → Carries d alone handed (λ m. next v m s a)) → Carries d alone handed (λ m. and_then (f m) next)
  unfolding and_then
  then_carries next p q =
      onward (λ o. o.ans.outcome) (λ o. after o.steps (next o.vol o.ans.medium o.ans.store o.ans.appender)) (λ o e. o) (λ o. refl) p
      (inside (λ o m. after o.steps (next o.vol m o.ans.store o.ans.appender)) (λ o. refl) (λ o. refl)
      (λ o. after_carries o.steps (q o.vol o.ans.store o.ans.appender)))
      (λ e. still (λ o. refl) (λ o. refl))

  -- where a file goes for room
  freed_carries : (a : Appender) (next : Next) {f : Medium → GoneOut} → Carries d alone gone f → ((v : List ℕ) (s : Store) → Carries d alone handed (λ m. next v m s))
      → Carries d alone handed (λ m. after_gone (f m) a next)
  freed_carries a next p q =
      onward (λ g. g.ans.outcome)
      (λ g. pick g.ans.any (after (rolling g.skipped) (next g.vol g.ans.medium g.ans.store)) (stopped g.vol g.ans.medium g.ans.store a Full))
      (λ g. stopped g.vol g.ans.medium g.ans.store a) (λ g. refl) p
      (inside
      (λ g m. pick g.ans.any (after (rolling g.skipped) (next g.vol m g.ans.store)) (stopped g.vol m g.ans.store a Full)) (λ g. refl) (λ g. refl)
      (λ g. either g.ans.any (after_carries (rolling g.skipped) (q g.vol g.ans.store)) (still (λ m. refl) (λ m. refl))))
      (λ e. still (λ g. refl) (λ g. refl))

  -- a free chunk, looked for
  free_carries : (vol : List ℕ) (st : Store) {f : Medium → Error → AppOut} {n : Medium → AppOut} {g : Medium → ℕ → AppOut}
      → ((e : Error) → Carries d alone handed (λ m. f m e)) → Carries d alone handed n → ((c : ℕ) → Carries d alone handed (λ m. g m c))
      → Carries d alone handed (λ m. on_pick (free_of vol m st) (f m) (n m) (g m))
  unfolding free_of walk_free_of checked_of link_at due_of check_of read_of on_pick
  free_carries vol st {f} {n} {g} p q r = given (λ m. free_of vol m st) (λ x m. on_pick x (f m) (n m) (g m)) (λ m. refl) go
    where
      go : (x : Result (Option ℕ) Error) → Carries d alone handed (λ m. on_pick x (f m) (n m) (g m))
      go (Err e) = p e
      go (Ok None) = q
      go (Ok (Some c)) = r c

  -- ---- another chunk

  module _ (vol : List ℕ) (st : Store) (a : Appender) (partial : Bool) (records : ℕ) where
    link_carries : (next : ℕ) → Carries d alone handed (λ m. link_out vol m st a partial records next)
    unfolding link_out steps_of
    link_carries next =
        both
        (λ o. record {
          vol = o.vol;
          ans = record { outcome = o.ans.outcome; medium = o.ans.medium; store = o.ans.store; appender = on_done o.ans.outcome (moved_to next a) (λ e. a) };
          steps = steps_of extended o;
        })
        (commit_carries d (Extend a.slot a.position next a.chunk partial records) [] vol st) (still (λ o. refl) (λ o. refl))

  module _ (vol : List ℕ) (st : Store) (a : Appender) (partial : Bool) (records : ℕ) where
    rolled_carries : Carries d alone handed (λ m. rolled_out vol m st a partial records)
    unfolding rolled_out
    rolled_carries =
        freed_carries a (λ v n s. on_pick (free_of v n s) (stopped v n s a) (stopped v n s a Corrupt) (link_out v n s a partial records))
        (oldest_carries d vol st (dir_bytes a.dir) (open_file st.writer))
        (λ v s. free_carries v s (λ e. still (λ m. refl) (λ m. refl)) (still (λ m. refl) (λ m. refl)) (link_carries v s a partial records))

    extend_carries : Carries d alone handed (λ m. extend_of vol m st a partial records)
    unfolding extend_of
    extend_carries =
        either (leb 32767 a.position) (still (λ m. refl) (λ m. refl))
        (free_carries vol st (λ e. still (λ m. refl) (λ m. refl))
        (either a.rolls rolled_carries (still (λ m. refl) (λ m. refl)))
        (link_carries vol st a partial records))

  -- ---- a record

  module _ (vol : List ℕ) (st : Store) (a : Appender) where
    record_carries : (index : ℕ) → Carries d alone handed (λ m. record_out index vol m st a)
    unfolding record_out
    record_carries index =
        onward (λ w. w.ans.outcome)
        (λ w. after ((record { kind = recorded; skipped = [] }) ∷ []) (done w.vol w.ans.medium st (filed index a)))
        (λ w. stopped w.vol w.ans.medium st a) (λ w. refl)
        (write_carries d vol (data_at st a.chunk index)
        (record_of st.head.id a.id (number_at a.position st.head.chunk index) (part 0 a.fill a.buffer)))
        (still (λ w. refl) (λ w. refl)) (λ e. still (λ w. refl) (λ w. refl))

  module _ (vol : List ℕ) (st : Store) where
    next_carries : (a : Appender) (partial : Bool) (records : ℕ) → Carries d alone handed (λ m. and_then (extend_of vol m st a partial records) (record_out 0))
    next_carries a partial records = then_carries (record_out 0) (extend_carries vol st a partial records) (λ v s b. record_carries v s b 0)

    tail_carries : (a : Appender) (tail : Tail)
        → Carries d alone handed (λ m. on_tail tail
        (λ i. pick (ltb i st.head.chunk) (record_out i vol m st a) (and_then (extend_of vol m st a false 0) (record_out 0)))
        (λ n. and_then (extend_of vol m st a true n) (record_out 0))
        (stopped vol m st a Stale))
    unfolding on_tail
    tail_carries a (At i) = either (ltb i st.head.chunk) (record_carries vol st a i) (next_carries a false 0)
    tail_carries a (Reopened n) = next_carries a true n
    tail_carries a Closed = still (λ m. refl) (λ m. refl)

    flush_carries : (a : Appender) → Carries d alone handed (λ m. flush_of vol m st a)
    unfolding flush_of write_out
    flush_carries a =
        onward (λ o. o.ans.outcome) (λ o. o) (λ o e. closing o e) (λ o. refl) (tail_carries a a.tail) (still (λ o. refl) (λ o. refl)) (λ e. still (λ o. refl) (λ o. refl))

    byte_carries : (b : ℕ) (a : Appender) → Carries d alone handed (λ m. put_byte b vol m st a)
    unfolding put_byte
    byte_carries b a = either (eqb (a.fill + 1) 486) (flush_carries (pushed b a)) (still (λ m. refl) (λ m. refl))

    pub sync_carries : (a : Appender) → Carries d alone handed (λ m. sync_of vol m st a)
    unfolding sync_of
    sync_carries a = either (eqb a.fill 0) (still (λ m. refl) (λ m. refl)) (flush_carries a)

  pub append_carries : (bytes vol : List ℕ) (st : Store) (a : Appender) → Carries d alone handed (λ m. append_of bytes vol m st a)
  unfolding append_of
  append_carries [] vol st a = still (λ m. refl) (λ m. refl)
  append_carries (b ∷ bs) vol st a = then_carries (append_of bs) (byte_carries vol st b a) (append_carries bs)

  -- ---- a new file

  module _ (name : List ℕ) (rollover : Rollover) where
    make_carries : (vol : List ℕ) (st : Store) (slot chunk : ℕ) → Carries d alone handed (λ m. make_out name rollover vol m st slot chunk)
    unfolding make_out opened_out steps_of
    make_carries vol st slot chunk =
        let id : ℕ = st.head.next_id in
        either (eqb id (2 ^ 32 - 1)) (still (λ m. refl) (λ m. refl))
        (onward (λ o. o.ans.outcome)
        (λ o. after (steps_of created o) (opened_out o.vol o.ans.medium o.ans.store slot id chunk 0 (At 0) rollover))
        (λ o. refused_at o.vol o.ans.medium o.ans.store) (λ o. refl)
        (commit_carries d (Create slot id chunk) name vol st) (still (λ o. refl) (λ o. refl)) (λ e. still (λ o. refl) (λ o. refl)))

    module _ (next : Next) (on : (v : List ℕ) (s : Store) → Carries d alone handed (λ m. next v m s)) (vol : List ℕ) (st : Store) where
      over_carries : Carries d alone handed (λ m. over_out rollover next vol m st)
      unfolding over_out
      over_carries = either rollover.rolls (freed_carries no_appender next (oldest_carries d vol st (dir_bytes rollover.dir) None) on) (still (λ m. refl) (λ m. refl))

      -- what a round does by what it saw
      abbrev seen_out : Result Seen Error → Medium → AppOut
      seen_out x m =
          on_looked x (refused_at vol m st)
          (λ s. pick s.exists (refused_at vol m st Exists)
          (on_free s.free (over_out rollover next vol m st)
          (λ slot. on_pick (free_of vol m st) (refused_at vol m st) (over_out rollover next vol m st) (make_out name rollover vol m st slot))))

      slot_carries : (o : Option ℕ)
          → Carries d alone handed (λ m. on_free o (over_out rollover next vol m st)
          (λ slot. on_pick (free_of vol m st) (refused_at vol m st) (over_out rollover next vol m st) (make_out name rollover vol m st slot)))
      unfolding on_free
      slot_carries None = over_carries
      slot_carries (Some slot) = free_carries vol st (λ e. still (λ m. refl) (λ m. refl)) over_carries (make_carries vol st slot)

      looked_carries : (x : Result Seen Error) → Carries d alone handed (seen_out x)
      unfolding on_looked
      looked_carries (Err e) = still (λ m. refl) (λ m. refl)
      looked_carries (Ok s) =
          either s.exists (still (λ m. refl) (λ m. refl))
          (slot_carries s.free)

      round_carries : Carries d alone handed (λ m. round_out name rollover next vol m st)
      unfolding round_out look_of slot_at due_of check_of read_of
      round_carries = given (λ m. look_of vol m st name) seen_out (λ m. refl) looked_carries

    pub create_carries : (n : ℕ) (vol : List ℕ) (st : Store) → Carries d alone handed (λ m. create_from n name rollover vol m st)
    unfolding create_from
    create_carries zero vol st = still (λ m. refl) (λ m. refl)
    create_carries (suc n) vol st = round_carries (create_from n name rollover) (create_carries n) vol st
