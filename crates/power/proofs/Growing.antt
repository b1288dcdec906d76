-- A sync in a history whose record takes another chunk. Where one is free it is linked and the record written; where none is, with a rollover and a file
-- that may go, the oldest goes first. Assumes nothing.
use Rattle.std.specs.Prelude.{Ok, Some}
use Prim.Native.Nat.{ℕ, ◌+◌, ◌-◌, ◌^◌, ◌≤◌, ◌<◌}
use mathlib.Core.Path.{◌≡◌, refl, sym, ap, subst, ◌∙◌}
use mathlib.Core.Bool.{Bool, true, false}
use mathlib.Core.Option.{some}
use mathlib.Core.List.{List, [], ◌∷◌, Memᴰ}
use native.Mathlib.Omega.{arith}
use borrow.Author.Tests.{le-ltb, lt-leb}
use lib.Dec.{leb, lit≤}
use Rattle.std.specs.Prelude.{Ok, Option as StdOption}
use Rattle.le.proofs.Choices.{pick_true, pick_false}
use Rattle.medium.specs.declared.Error.TheVariants.{Corrupt}
use Rattle.medium.specs.declared.Medium.{Medium}
use Rattle.medium.proofs.Laws.{on_done_done, on_done_keeps}
use Rattle.handles.specs.declared.Header.{Header}
use Rattle.handles.specs.declared.Store.{Store}
use Rattle.handles.specs.Handles.{is_open, open_id, table_of, open_file, opened_by}
use Rattle.table.specs.Table.{on_pick}
use Rattle.table.specs.Free.{free_of}
use Rattle.plan.specs.declared.Edit.{Edit}
use Rattle.plan.specs.declared.Edit.TheVariants.{Extend}
use Rattle.plan.specs.Edit.{head_after}
use Rattle.plan.specs.Copy.{rolled_over, extended, recorded, Skipped, Out, EachSkipped, Distinct}
use Rattle.commit.proofs.Keeps.{Kept, commit_keeps}
use Rattle.remove.specs.Remove.{GoneOut, remove_oldest_of}
use Rattle.append.specs.declared.Appender.{Appender}
use Rattle.append.specs.declared.Tail.{Tail}
use Rattle.append.specs.declared.Tail.TheVariants.{At, Reopened, Closed}
use Rattle.append.specs.Appender.{dir_bytes, is_closed}
use Rattle.append.specs.Flush.{AppOut, stopped, after, rolling, and_then, link_out, rolled_out, extend_of, moved_to, record_out, on_tail, write_out, flush_of}
use Rattle.append.proofs.Then.{then_done}
use Rattle.layout.specs.Segments.{Segment}
use Rattle.medium.specs.Sector.{Readable}
use Rattle.writes.proofs.Beside.{extend_plain}
use Rattle.power.specs.Calls.{sync}
use Rattle.power.specs.Book.{File, Book, keep, may_go}
use Rattle.power.specs.History.{World, Ran, with_left, ran, open_of, EachStep}
use Rattle.power.specs.Room.{Tells, chunks_in, TakesChunk}
use Rattle.power.proofs.Fine.{Fine}
use Rattle.power.proofs.Whole.{Whole, Booked, same_files}
use Rattle.power.proofs.Members.{is_not}
use Rattle.power.proofs.Picks.{spared_by}
use Rattle.power.proofs.Removing.{gone_readable}
use Rattle.power.proofs.Oldest.{Went, spared_open, oldest_made}
use Rattle.power.proofs.Asks.{set_dir}
use Rattle.power.proofs.Standing.{position_in}
use Rattle.power.proofs.Linking.{commit, step, moved, link_made}
use Rattle.power.proofs.Spends.{write_some}
use Rattle.power.proofs.Running.{Opened, stands, some_kept, sync_flush, sync_done}
use Rattle.writes.specs.Writes.{commit_most, records_most}
use Rattle.writes.proofs.Edges.{record_plain, record_over}
use Rattle.writes.proofs.Removals.{oldest_beside}
use Rattle.power.proofs.Enough.{Within, commit_within, commit_after}
use Rattle.power.proofs.Rounds.{found, none_found}
use Rattle.power.proofs.Going.{Goer, oldest_goes, went_chunks}

takes_live : (t : Tail) (size : ℕ) → TakesChunk t size → is_closed t ≡ false
unfolding is_closed
takes_live (At i) size h = refl
takes_live (Reopened n) size h = refl
takes_live Closed size h = absurd h

-- another chunk first, and where the last one was reopened it is marked
write_next : (vol : List ℕ) (m : Medium) (st : Store) (a : Appender) (t : Tail) → a.tail ≡ t → TakesChunk t st.head.chunk
    → (partial : Bool) × ((records : ℕ) × (write_out vol m st a ≡ and_then (extend_of vol m st a partial records) (record_out 0)))
unfolding write_out on_tail
write_next vol m st a (At i) q h = (false, (0, rw q (pick_false _ _ (le-ltb i st.head.chunk h))))
write_next vol m st a (Reopened n) q h = (true, (n, rw q refl))
write_next vol m st a Closed q h = absurd h

-- the step that a call began with
rolled_first : (P : Skipped → Type 0) (skipped : List Skipped) (o : AppOut) (next : List ℕ → Medium → Store → Appender → AppOut)
    → EachStep P (and_then (after (rolling skipped) o) next).steps → EachSkipped P skipped
unfolding and_then EachStep
rolled_first P skipped o next = on_done_keeps (λ (x : AppOut). EachStep P x.steps → EachSkipped P skipped) o.ans.outcome _ _ (λ _ h. h.0) (λ _ _ h. h.0)

flush_steps : (vol : List ℕ) (m : Medium) (st : Store) (a : Appender) → (flush_of vol m st a).steps ≡ (write_out vol m st a).steps
unfolding flush_of
flush_steps vol m st a = on_done_keeps (λ (x : AppOut). x.steps ≡ (write_out vol m st a).steps) (write_out vol m st a).ans.outcome _ _ (λ _. refl) (λ _ _. refl)

-- ---- a chunk is linked, and the record is written in it

module _ (vol : List ℕ) (m : Medium) (st : Store) {G : ℕ → List Segment} {b : Fine} (w : Whole vol st G b) (a : Appender) (partial : Bool) (records c : ℕ) where
  abbrev edit : Edit
  edit = Extend a.slot a.position c a.chunk partial records

  abbrev o : Out
  o = commit vol m st a partial records c

  abbrev last : AppOut
  last = record_out 0 o.vol o.ans.medium o.ans.store (moved_to c a)

  kept : Kept edit vol m st o
  kept = commit_keeps edit [] vol m st w.inv.ok w.inv.range.count (lit≤ tt)

  -- the commit is done, and a write is left after it
  module _ (n : ℕ) (within : Within n m o.ans.outcome o.ans.medium) (enough : n + 1 ≤ m.left) where
    linked_is : link_out vol m st a partial records c ≡ after (step vol m st a partial records c ∷ []) (moved vol m st a partial records c)
    linked_is = link_made vol m st a partial records c within.0

    last_done : (last.ans.outcome ≡ Ok tt) × (last.steps ≡ (record { kind = recorded; skipped = [] }) ∷ []) × (last.ans.store ≡ o.ans.store)
    unfolding record_out
    last_done = rw (on_done_done _ _ (write_some o.vol o.ans.medium _ _ (omega (arith, within.1, enough))).0) (refl, refl, refl)

    later : o.ans.store.head.generation ≡ st.head.generation + 1
    unfolding head_after
    later = ap (λ (h : Header). h.generation) (kept.accepted within.0).1

-- ---- the call

-- accepted, with its three steps: the shape is as it was, with two generations more
pub record Grown (w : World) (left : ℕ) : Type 0 where
  pub accepted : (ran w (sync left)).accepted ≡ true
  pub rolled : List Skipped
  pub linked : List Skipped
  pub steps : (ran w (sync left)).steps
      ≡ (record { kind = rolled_over; skipped = rolled }) ∷ (record { kind = extended; skipped = linked }) ∷ (record { kind = recorded; skipped = [] }) ∷ []
  pub chunks : (ran w (sync left)).world.store.head.chunks ≡ w.store.head.chunks
  pub size : (ran w (sync left)).world.store.head.chunk ≡ w.store.head.chunk
  pub generation : (ran w (sync left)).world.store.head.generation ≡ w.store.head.generation + 2

module _ {w : World} {b : Book} (k : Booked w b) (left : ℕ) (writer : w.store.writer ≡ opened_by w.appender.token w.appender.id)
    (takes : TakesChunk w.appender.tail w.store.head.chunk) (some_bytes : b.unwritten ≡ [] → ⊥) where
  abbrev a : Appender
  a = w.appender

  abbrev m : Medium
  m = with_left left w.medium

  y : Opened w
  y = record { writer = writer; live = takes_live a.tail w.store.head.chunk takes }

  bytes : 1 ≤ a.fill
  bytes = some_kept k.keeps y (λ e. some_bytes (ap (λ (x : Book). x.unwritten) (sym k.same) ∙ e))

  abbrev next : (partial : Bool) × ((records : ℕ) × (write_out w.vol m w.store a ≡ and_then (extend_of w.vol m w.store a partial records) (record_out 0)))
  next = write_next w.vol m w.store a a.tail refl takes

  abbrev partial : Bool
  partial = next.0

  abbrev records : ℕ
  records = next.1.0

  low : leb 32767 a.position ≡ false
  low = lt-leb 32767 a.position (omega (arith, position_in k.keeps.whole (stands k.keeps y).0))

  -- ---- a chunk is free

  module _ (room_left : chunks_in b.files < w.store.head.chunks) (gens : w.store.head.generation ≡ 2 ^ 64 - 1 → ⊥)
      (enough : records_most false w.store.head.chunks 1 ≤ left) where
    free_here : (c : ℕ) × (free_of w.vol m w.store ≡ Ok (Some c))
    free_here = found w.vol m w.store k.keeps.whole k.keeps.readable (rw (same_files k) room_left)

    extend_links : extend_of w.vol m w.store a partial records ≡ link_out w.vol m w.store a partial records free_here.0
    unfolding extend_of on_pick
    extend_links = pick_false _ _ low ∙ rw free_here.1 refl

    plenty : commit_most w.store.head.chunks + 1 ≤ left
    plenty = rw (← record_plain w.store.head.chunks) enough

    links : Within (commit_most w.store.head.chunks) m (commit w.vol m w.store a partial records free_here.0).ans.outcome (commit w.vol m w.store a partial records free_here.0).ans.medium
    links =
        commit_within (edit w.vol m w.store k.keeps.whole a partial records free_here.0) [] w.vol m w.store k.keeps.whole.inv k.keeps.readable
        (extend_plain a.slot a.position free_here.0 a.chunk partial records) (lit≤ tt) gens (omega (arith, plenty))

    abbrev both : AppOut
    both = after (step w.vol m w.store a partial records free_here.0 ∷ []) (last w.vol m w.store k.keeps.whole a partial records free_here.0)

    both_is : write_out w.vol m w.store a ≡ both
    both_is =
        next.1.1 ∙ ap (λ (o : AppOut). and_then o (record_out 0)) (extend_links ∙ linked_is w.vol m w.store k.keeps.whole a partial records free_here.0 _ links plenty)
        ∙ then_done (after (step w.vol m w.store a partial records free_here.0 ∷ []) (moved w.vol m w.store a partial records free_here.0)) (record_out 0) refl

    pub sync_extends : Tells w (sync left) (extended ∷ recorded ∷ [])
    sync_extends =
        let d = last_done w.vol m w.store k.keeps.whole a partial records free_here.0 _ links plenty in
        rw (sync_done k.keeps y left bytes both_is d.0, d.0, d.1) (refl, refl)

  -- ---- none is, and a file of the rollover's directory may go

  module _ (none_left : chunks_in b.files ≡ w.store.head.chunks) (dir : List ℕ) (over : b.rollover ≡ some dir) (f : File) (has : Memᴰ f b.files)
      (goes : may_go dir (some b.file) f ≡ true) (gens : w.store.head.generation + 2 ≤ 2 ^ 64 - 1) (enough : records_most true w.store.head.chunks 1 ≤ left) where
    abbrev spared : StdOption ℕ
    spared = open_file w.store.writer

    abbrev x : GoneOut
    x = remove_oldest_of w.vol m w.store (dir_bytes a.dir) spared

    set : (a.rolls ≡ true) × (dir_bytes a.dir ≡ dir)
    set = set_dir a.rolls (dir_bytes a.dir) dir (sym over ∙ sym (ap (λ (x : Book). x.rollover) k.same) ∙ (stands k.keeps y).0.rollover)

    spares : some b.file ≡ spared_by spared
    spares = ap some (sym (ap (λ (x : Book). x.file) k.same) ∙ (stands k.keeps y).0.file) ∙ sym (ap open_of writer) ∙ sym (spared_open w.store.writer)

    two : commit_most w.store.head.chunks + (1 + table_of w.store.head.chunks + 2) + 1 ≤ left
    two = rw (← record_over w.store.head.chunks) enough

    gone : Goer m w.store x
    gone =
        oldest_goes w.vol m w.store k.keeps.layout k.fine k.keeps.whole k.keeps.readable (λ e. omega (arith, e, gens)) (omega (arith, two)) (dir_bytes a.dir) spared f (rw (same_files k) has)
        (rw (set.1, ← spares) goes)

    -- what follows it
    abbrev onward : AppOut
    onward =
        on_pick (free_of x.vol x.ans.medium x.ans.store) (stopped x.vol x.ans.medium x.ans.store a) (stopped x.vol x.ans.medium x.ans.store a Corrupt)
        (link_out x.vol x.ans.medium x.ans.store a partial records)

    extend_is : extend_of w.vol m w.store a partial records ≡ after (rolling x.skipped) onward
    unfolding extend_of rolled_out on_pick
    extend_is =
        pick_false _ _ low
        ∙ rw (none_found w.vol m w.store k.keeps.whole k.keeps.readable (rw (same_files k) none_left))
        (pick_true _ _ set.0 ∙ on_done_done _ _ gone.within.0 ∙ pick_true _ _ gone.any)

    write_is : write_out w.vol m w.store a ≡ and_then (after (rolling x.skipped) onward) (record_out 0)
    write_is = next.1.1 ∙ ap (λ (o : AppOut). and_then o (record_out 0)) extend_is

    -- then a chunk is free, under the premise on the sectors that the removal left unwritten
    module _ (each : EachStep Distinct (ran w (sync left)).steps) where
      each_gone : EachSkipped Distinct x.skipped
      each_gone =
          rolled_first Distinct x.skipped onward (record_out 0)
          (subst (EachStep Distinct) (ap (λ (r : Ran). r.steps) (sync_flush k.keeps y left bytes) ∙ flush_steps w.vol m w.store a ∙ ap (λ (o : AppOut). o.steps) write_is) each)

      went : Went w.vol m w.store k.keeps.layout k.fine (dir_bytes a.dir) spared x
      went = oldest_made w.vol m w.store k.keeps.layout k.fine k.keeps.whole k.keeps.readable (dir_bytes a.dir) spared gone.any each_gone

      reads : Readable x.vol x.ans.medium
      reads = gone_readable went.gone k.keeps.readable

      fewer : chunks_in (keep (is_not went.id) k.fine.files) < x.ans.store.head.chunks
      fewer = let all : chunks_in k.fine.files ≡ w.store.head.chunks = rw (same_files k) none_left in omega (arith, went_chunks k.keeps.whole went, all, gone.chunks)

      free_there : (c : ℕ) × (free_of x.vol x.ans.medium x.ans.store ≡ Ok (Some c))
      free_there = found x.vol x.ans.medium x.ans.store went.gone.whole reads fewer

      abbrev c : ℕ
      c = free_there.0

      fresh : x.ans.store.head.generation ≡ 2 ^ 64 - 1 → ⊥
      fresh e = omega (arith, e, gone.generation, gens)

      -- the copy beside it is the one that was current
      abbrev few : ℕ
      few = 1 + 0 + table_of x.ans.store.head.chunks + 2

      ample : few + 1 ≤ x.ans.medium.left
      ample = rw gone.chunks (omega (arith, gone.within.1, two))

      within : Within few x.ans.medium (commit x.vol x.ans.medium x.ans.store a partial records c).ans.outcome (commit x.vol x.ans.medium x.ans.store a partial records c).ans.medium
      within =
          commit_after (edit x.vol x.ans.medium x.ans.store went.whole a partial records c) [] x.vol x.ans.medium x.ans.store went.whole.inv reads
          (extend_plain a.slot a.position c a.chunk partial records) (lit≤ tt) fresh
          (oldest_beside w.vol m w.store (record { ok = k.keeps.whole.inv.ok; count = k.keeps.whole.inv.range.count }) (dir_bytes a.dir) spared gone.any) (omega (arith, ample))

      -- it is linked, and the record is written
      abbrev all : AppOut
      all =
          after ((record { kind = rolled_over; skipped = x.skipped }) ∷ step x.vol x.ans.medium x.ans.store a partial records c ∷ [])
          (last x.vol x.ans.medium x.ans.store went.whole a partial records c)

      onward_is : onward ≡ after (step x.vol x.ans.medium x.ans.store a partial records c ∷ []) (moved x.vol x.ans.medium x.ans.store a partial records c)
      unfolding on_pick
      onward_is = rw free_there.1 (linked_is x.vol x.ans.medium x.ans.store went.whole a partial records c _ within ample)

      written_is : write_out w.vol m w.store a ≡ all
      written_is =
          write_is ∙ ap (λ (z : AppOut). and_then (after (rolling x.skipped) z) (record_out 0)) onward_is
          ∙ then_done (after (rolling x.skipped) (after (step x.vol x.ans.medium x.ans.store a partial records c ∷ []) (moved x.vol x.ans.medium x.ans.store a partial records c)))
          (record_out 0) refl

      pub sync_grows : Grown w left
      sync_grows =
          let d = last_done x.vol x.ans.medium x.ans.store went.whole a partial records c _ within ample in
          let s = kept x.vol x.ans.medium x.ans.store went.whole a partial records c in
          let g = later x.vol x.ans.medium x.ans.store went.whole a partial records c _ within ample in
          let q = sync_done k.keeps y left bytes written_is d.0 in
          record {
            accepted = rw (q, d.0) refl;
            rolled = x.skipped;
            linked = (commit x.vol x.ans.medium x.ans.store a partial records c).skipped;
            steps = rw (q, d.1) refl;
            chunks = rw (q, d.2) (s.chunks ∙ gone.chunks);
            size = rw (q, d.2) (s.chunk ∙ gone.size);
            generation = rw (q, d.2) (omega (arith, g, gone.generation));
          }
