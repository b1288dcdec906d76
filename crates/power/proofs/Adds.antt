-- Append and sync keep what each commit and record keeps, accepted, refused or stopped, on any volume and with any appender. Assumes nothing.
use Rattle.std.specs.Prelude.{None, Option, Some}
use Rattle.std.specs.Prelude.{Err, Ok, Result}
use Rattle.medium.specs.declared.Error.{Error}
use Prim.Native.Nat.{ℕ, ◌+◌, ◌<◌}
use mathlib.Core.Path.{◌≡◌, refl, sym, ap, ◌∙◌, subst}
use mathlib.Core.Logic.{inl}
use mathlib.Core.Bool.{Bool, true, false, not, ◌&&◌, true≢false, false≢true}
use mathlib.Core.List.{List, [], ◌∷◌}
use native.Mathlib.Omega.{arith}
use borrow.Author.Tests.{ltb-true, leb-false}
use lib.Dec.{eqb, leb, ltb, lit≤}
use Rattle.le.proofs.Choices.{pick_keeps, pick_keeps_by}
use Rattle.le.proofs.Bools.{and_true}
use Rattle.medium.specs.declared.Error.TheVariants.{Corrupt}
use Rattle.medium.specs.declared.Medium.{Medium}
use Rattle.medium.specs.Sector.{sectors_of, WriteOut}
use Rattle.medium.proofs.Laws.{on_done_keeps}
use Rattle.handles.specs.declared.Store.{Store}
use Rattle.handles.specs.declared.Writer.{Writer}
use Rattle.handles.specs.Handles.{is_open, open_file, open_id}
use Rattle.handles.proofs.Laws.{store_facts}
use Rattle.table.specs.Table.{on_pick}
use Rattle.table.specs.Free.{free_of}
use Rattle.record.specs.Record.{data_at}
use Rattle.plan.specs.declared.Edit.TheVariants.{Extend}
use Rattle.plan.specs.Copy.{Skipped, EachSkipped, extended, is_format}
use Rattle.commit.specs.Commit.{commit_of}
use Rattle.remove.specs.Remove.{GoneOut, remove_oldest_of}
use Rattle.remove.proofs.Keeps.{Good, GoneStands, oldest_stands}
use Rattle.append.specs.declared.Appender.{Appender}
use Rattle.append.specs.declared.Tail.{Tail}
use Rattle.append.specs.declared.Tail.TheVariants.{Reopened}
use Rattle.append.specs.Appender.{dir_bytes, tail_ok, is_closed, writes, live, Fit}
use Rattle.append.specs.Calls.{may_write, AppCall, offered, append_call, sync_call}
use Rattle.append.specs.Flush.{AppOut, stopped, and_then, link_out, rolled_out, extend_of, record_out, write_out, flush_of, pushed, put_byte, append_of, sync_of}
use Rattle.append.proofs.Then.{Next, then_done, then_no}
use Rattle.append.proofs.Facts.{May, may_facts}
use Rattle.append.proofs.Keeps.{on_tail_keeps, fit_still, extend_goes, record_write, record_kept}
use Rattle.append.proofs.Runs.{Puts, pushed_fit, byte_puts, append_puts, sync_puts}
use Rattle.safe.proofs.Frame.{clash}
use Rattle.power.specs.Calls.{append, sync}
use Rattle.power.specs.History.{World, with_left, ran_append, ran, EachStep}
use Rattle.power.proofs.Steps.{each_append}
use Rattle.power.proofs.Appends.{may_live}
use Rattle.power.proofs.Lasts.{Lasts, free_keeps, step_due, good_of, Held, commit_stays, oldest_stays}

-- a live appender's store has a writer
live_open : (x : Option Writer) (token : ℕ) (t : Bool) → (writes x token && t) ≡ true → is_open x ≡ true
unfolding writes
live_open None token t e = absurd (false≢true e)
live_open (Some w) token t e = refl

module _ {P : Skipped → Type 0} {L : List ℕ → Store → Type 0} (rules : Lasts P L) where
  abbrev KeptIf : AppOut → Type 0
  KeptIf o = EachStep P o.steps → L o.vol o.ans.store

  then_lasts : (o : AppOut) (next : Next) → KeptIf o
      → (o.ans.outcome ≡ Ok tt → L o.vol o.ans.store → KeptIf (next o.vol o.ans.medium o.ans.store o.ans.appender))
      → KeptIf (and_then o next)
  then_lasts o next first on = go o.ans.outcome refl
    where
      go : (r : Result Unit Error) → o.ans.outcome ≡ r → KeptIf (and_then o next)
      go (Err e) q = subst KeptIf (sym (then_no o next q)) first
      go (Ok tt) q =
          let x : AppOut = next o.vol o.ans.medium o.ans.store o.ans.appender in
          subst KeptIf (sym (then_done o next q)) (λ each. let p = each_append P o.steps x.steps each in on q (first p.0) p.1)

  -- ---- another chunk

  module _ (partial : Bool) (records : ℕ) (small : records < 512) where
    module _ (vol : List ℕ) (m : Medium) (st : Store) (a : Appender) (good : Good vol st) (fit : Fit a st) (few : partial ≡ true → records < st.head.chunk) (l : L vol st) where
      link_lasts : a.position < 32767 → (c : ℕ) → c < st.head.chunks → KeptIf (link_out vol m st a partial records c)
      unfolding link_out is_format
      link_lasts near c h each =
          let edit = Extend a.slot a.position c a.chunk partial records in
          (commit_stays rules Unit vol m st good (l, λ _. tt) edit [] (lit≤ tt) ((fit.slot, omega arith, h, fit.chunk, small), few) refl
          (step_due P extended (commit_of edit [] vol m st) each)).0

    module _ (vol : List ℕ) (m : Medium) (st : Store) (a : Appender) (good : Good vol st) (fit : Fit a st) (few : partial ≡ true → records < st.head.chunk) (l : L vol st) where
      abbrev g : GoneOut
      g = remove_oldest_of vol m st (dir_bytes a.dir) (open_file st.writer)

      gone_lasts : (g.ans.outcome ≡ Ok tt → g.ans.any ≡ true → EachSkipped P g.skipped) → L g.vol g.ans.store
      gone_lasts due = (oldest_stays rules Unit vol m st good (l, λ _. tt) (dir_bytes a.dir) (open_file st.writer) due).0

      once_lasts : a.position < 32767 → L g.vol g.ans.store
          → KeptIf (on_pick (free_of g.vol g.ans.medium g.ans.store) (stopped g.vol g.ans.medium g.ans.store a)
          (stopped g.vol g.ans.medium g.ans.store a Corrupt) (link_out g.vol g.ans.medium g.ans.store a partial records))
      once_lasts near s =
          let k : GoneStands vol m st g = oldest_stands vol m st (dir_bytes a.dir) (open_file st.writer) good in
          free_keeps KeptIf g.vol g.ans.medium g.ans.store k.good _ _ _ (λ _ _. s) (λ _. s)
          (link_lasts g.vol g.ans.medium g.ans.store a k.good (fit_still k.chunks k.chunk fit) (λ t. rw k.chunk (few t)) s near)

      -- the oldest file goes first
      rolled_lasts : a.position < 32767 → KeptIf (rolled_out vol m st a partial records)
      unfolding rolled_out EachStep
      rolled_lasts near =
          on_done_keeps KeptIf g.ans.outcome _ _
          (λ _. pick_keeps_by KeptIf g.ans.any _ _
          (λ _ each. once_lasts near (gone_lasts (λ _ _. each.0)) each.1)
          (λ n _. gone_lasts (λ _ y. absurd (true≢false (sym y ∙ n)))))
          (λ e d _. gone_lasts (λ q. clash d q))

      extend_lasts : KeptIf (extend_of vol m st a partial records)
      unfolding extend_of
      extend_lasts =
          pick_keeps_by KeptIf (leb 32767 a.position) _ _ (λ _ _. l)
          (λ t.
          let near : a.position < 32767 = leb-false _ _ t in
          free_keeps KeptIf vol m st good _ _ _ (λ _ _. l)
          (pick_keeps KeptIf a.rolls _ _ (rolled_lasts near) (λ _. l))
          (link_lasts vol m st a good fit few l near))

  -- ---- a record

  record_lasts : (vol : List ℕ) (m : Medium) (st : Store) (a : Appender) → Good vol st → Fit a st → L vol st → (index : ℕ) → index < st.head.chunk
      → KeptIf (record_out index vol m st a)
  unfolding record_out data_at
  record_lasts vol m st a good fit l index h =
      let w : WriteOut = record_write index vol m st a in
      let kept = record_kept vol m st a good fit index h in
      let on : L w.vol st = rules.beyond vol w.vol st kept.size (λ j b. kept.same j (inl (omega arith))) l in
      on_done_keeps KeptIf w.ans.outcome _ _ (λ _ _. on) (λ _ _ _. on)

  next_lasts : (partial : Bool) (records : ℕ) → records < 512 → (vol : List ℕ) (m : Medium) (st : Store) (a : Appender) → Good vol st → Fit a st → (partial ≡ true → records < st.head.chunk) → L vol st
      → KeptIf (and_then (extend_of vol m st a partial records) (record_out 0))
  next_lasts partial records small vol m st a good fit few l =
      let o : AppOut = extend_of vol m st a partial records in
      let g = extend_goes vol m st a partial records good fit in
      then_lasts o (record_out 0) (extend_lasts partial records small vol m st a good fit few l)
      (λ _ s. record_lasts o.vol o.ans.medium o.ans.store o.ans.appender g.0.good g.1 s 0
      (store_facts o.ans.store (sectors_of o.vol) g.0.good.ok).head.size_least)

  -- ---- the bytes

  module _ (vol : List ℕ) (m : Medium) (st : Store) (a : Appender) (good : Good vol st) (fit : Fit a st) (l : L vol st) where
    write_lasts : KeptIf (write_out vol m st a)
    unfolding write_out tail_ok
    write_lasts =
        on_tail_keeps KeptIf a.tail _ _ _
        (λ i _. pick_keeps_by KeptIf (ltb i st.head.chunk) _ _
        (λ t. record_lasts vol m st a good fit l i (ltb-true i st.head.chunk t))
        (λ _. next_lasts false 0 (omega arith) vol m st a good fit (λ t. absurd (false≢true t)) l))
        (λ n q.
        let t : tail_ok (Reopened n) st.head.chunk ≡ true = ap (λ (x : Tail). tail_ok x st.head.chunk) (sym q) ∙ fit.tail in
        let h : n < st.head.chunk = ltb-true _ _ (and_true (leb 1 n) (ltb n st.head.chunk) t).1 in
        next_lasts true n (omega (arith, (store_facts st (sectors_of vol) good.ok).head.size_most)) vol m st a good fit (λ _. h) l)
        (λ _. l)

    flush_lasts : KeptIf (flush_of vol m st a)
    unfolding flush_of
    flush_lasts = on_done_keeps KeptIf (write_out vol m st a).ans.outcome _ _ (λ _. write_lasts) (λ _ _. write_lasts)

    sync_lasts : KeptIf (sync_of vol m st a)
    unfolding sync_of
    sync_lasts = pick_keeps KeptIf (eqb a.fill 0) _ _ (λ _. l) flush_lasts

  append_lasts : (bytes vol : List ℕ) (m : Medium) (st : Store) (a : Appender) → Good vol st → Fit a st → a.fill < 486 → L vol st → KeptIf (append_of bytes vol m st a)
  unfolding append_of put_byte
  append_lasts [] vol m st a good fit h l = λ _. l
  append_lasts (b ∷ bs) vol m st a good fit h l =
      let o : AppOut = put_byte b vol m st a in
      let p = byte_puts vol m st a good fit h b in
      then_lasts o (append_of bs)
      (pick_keeps KeptIf (eqb (a.fill + 1) 486) _ _ (flush_lasts vol m st (pushed b a) good (pushed_fit b a st fit h) l) (λ _. l))
      (λ q s. append_lasts bs o.vol o.ans.medium o.ans.store o.ans.appender p.goes.0.good p.goes.1 (p.room q) s)

  -- ---- the calls

  module _ (w : World) (held : Held rules w) (left : ℕ) where
    abbrev m : Medium
    m = with_left left w.medium

    abbrev Called : AppCall → Type 0
    Called c = EachStep P c.steps → Held rules (ran_append c).world

    called : (o : AppOut) → (Good w.vol w.store → May w.vol w.store w.appender → Puts w.vol m w.store o × KeptIf o)
        → Called (offered w.vol m w.store w.appender o)
    unfolding offered live
    called o f =
        on_done_keeps Called (may_write w.vol w.store w.appender) _ _
        (λ q each.
        let a : Appender = w.appender in
        let wr : is_open w.store.writer ≡ true = live_open w.store.writer a.token (not (is_closed a.tail)) (may_live w.vol w.store a q) in
        let y : May w.vol w.store a = may_facts w.vol w.store a (held.1 wr) q in
        let k = f (good_of rules w.vol w.store held.0 y.ok) y in
        (k.1 each, λ _. k.0.goes.1.full))
        (λ _ _ _. held)

    pub append_held : (bytes : List ℕ) → EachStep P (ran w (append left bytes)).steps → Held rules (ran w (append left bytes)).world
    unfolding ran append_call
    append_held bytes =
        called (append_of bytes w.vol m w.store w.appender)
        (λ good y. (
          append_puts bytes w.vol m w.store w.appender good y.fit y.room,
          append_lasts bytes w.vol m w.store w.appender good y.fit y.room held.0,
        ))

    pub sync_held : EachStep P (ran w (sync left)).steps → Held rules (ran w (sync left)).world
    unfolding ran sync_call
    sync_held =
        called (sync_of w.vol m w.store w.appender)
        (λ good y. (sync_puts w.vol m w.store w.appender good y.fit y.room, sync_lasts w.vol m w.store w.appender good y.fit held.0))
