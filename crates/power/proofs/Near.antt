-- How far an appender's position gets in one call of append or sync, whether it is accepted, refused or stopped: number 3 lets in 2,047, each chunk
-- more is one more of its slot, and its slot is freed at most once. Proved of any volume under demand 3's premise in the customer's words, and under
-- the weaker one of any volume as it is between the calls. The appender may be forged. Assumes nothing.
use Rattle.std.specs.Prelude.{Err, Ok, Result, Some}
use Prim.Native.Nat.{ℕ, ◌+◌, ◌≤◌, ◌<◌}
use mathlib.Core.Path.{◌≡◌, refl, sym, ap, ◌∙◌, subst}
use mathlib.Core.Logic.{inl}
use mathlib.Core.Bool.{Bool, true, false, false≢true}
use mathlib.Core.List.{List, [], ◌∷◌}
use native.Mathlib.Nat.{le_refl}
use native.Mathlib.Omega.{arith}
use borrow.Author.Tests.{ltb-true}
use lib.Dec.{eqb, leb, ltb, lit≤}
use lib.ListN.{length}
use Rattle.std.specs.Prelude.{None, Some, Ok, Err, Result, Option}
use Rattle.directory.specs.declared.Old.{Old}
use Rattle.le.proofs.Choices.{pick_keeps, pick_keeps_by}
use Rattle.le.proofs.Bools.{and_true}
use Rattle.medium.specs.declared.Error.{Error}
use Rattle.medium.specs.declared.Error.TheVariants.{Corrupt, Full, Stale}
use Rattle.medium.specs.declared.Medium.{Medium}
use Rattle.medium.specs.Sector.{sectors_of, sector_at, WriteOut}
use Rattle.medium.proofs.Laws.{on_done_keeps}
use Rattle.handles.specs.declared.Store.{Store}
use Rattle.handles.specs.Body.{body_at}
use Rattle.handles.specs.Handles.{body_of, open_file}
use Rattle.handles.proofs.Laws.{Sane, store_facts, base_most}
use Rattle.directory.specs.Entry.{entry_at}
use Rattle.directory.specs.Scan.{oldest_of}
use Rattle.directory.proofs.Ranges.{oldest_file}
use Rattle.table.specs.Table.{on_pick}
use Rattle.table.specs.Free.{free_of}
use Rattle.table.proofs.Decides.{on_pick_keeps}
use Rattle.table.proofs.Tells.{Mapped}
use Rattle.record.specs.Record.{data_at}
use Rattle.plan.specs.declared.Edit.{Edit}
use Rattle.plan.specs.declared.Edit.TheVariants.{Extend, Remove}
use Rattle.plan.specs.Copy.{Skipped, Distinct, EachSkipped, Out}
use Rattle.commit.specs.Commit.{commit_of}
use Rattle.remove.specs.Remove.{closed_for, remove_of, GoneOut, gone_of, oldest_gone, remove_oldest_of}
use Rattle.remove.proofs.Keeps.{Good, commit_stands, oldest_stands}
use Rattle.append.specs.declared.Appender.{Appender}
use Rattle.append.specs.declared.Tail.{Tail}
use Rattle.append.specs.declared.Tail.TheVariants.{Reopened}
use Rattle.append.specs.Appender.{dir_bytes, tail_ok, appender_ok, Fit}
use Rattle.append.specs.Calls.{may_write, call_of, offered, append_call, sync_call}
use Rattle.append.specs.Flush.{AppOut, stopped, and_then, moved_to, link_out, rolled_out, extend_of, record_out, write_out, flush_of, pushed, put_byte, append_of, sync_of}
use Rattle.append.proofs.Then.{Next, then_done, then_no}
use Rattle.append.proofs.Facts.{May, may_facts, appender_low}
use Rattle.append.proofs.Keeps.{on_tail_keeps, fit_still, extend_goes, record_write, record_kept}
use Rattle.append.proofs.Runs.{pushed_fit, byte_puts}
use Rattle.safe.specs.Inv.{Inv}
use Rattle.safe.proofs.Frame.{clash}
use Rattle.layout.specs.Views.{named, entry_view, disk_of}
use Rattle.views.proofs.Makes.{extended_entries, extended_more}
use Rattle.views.proofs.Stays.{entries_stay, links_stay, writer_unchanged}
use Rattle.views.proofs.Maps.{Fitting, edited_mapped, mapped_kept}
use Rattle.views.specs.Edited.{Edited}
use Rattle.folds.proofs.Chunks.{free_chunk}
use Rattle.power.specs.History.{EachStep, Honest}
use Rattle.power.specs.Near.{StaysNear}
use Rattle.power.proofs.Steps.{each_append}
use Rattle.power.proofs.Linking.{link_made, link_refused}
use Rattle.power.proofs.Positions.{Carries, honest, distinct, Near, linked, near_few, near_on, near_same, near_gone}

module _ {P : Skipped → Type 0} {Fine : List ℕ → Store → Type 0} (rules : Carries P Fine) where
  abbrev Going : List ℕ → Store → Appender → Type 0
  Going vol st a = (Fine vol st × Mapped vol st) × Near (disk_of vol st) a.slot a.position

  -- of what a part of the call gives
  abbrev Kept : AppOut → Type 0
  Kept o = (o.ans.appender.position ≤ 6143) × (o.ans.outcome ≡ Ok tt → Going o.vol o.ans.store o.ans.appender)

  abbrev KeptIf : AppOut → Type 0
  KeptIf o = EachStep P o.steps → Kept o

  then_near : (o : AppOut) (next : Next) → KeptIf o
      → (o.ans.outcome ≡ Ok tt → Going o.vol o.ans.store o.ans.appender → KeptIf (next o.vol o.ans.medium o.ans.store o.ans.appender))
      → KeptIf (and_then o next)
  then_near o next first on each = go o.ans.outcome refl
    where
      go : (r : Result Unit Error) → o.ans.outcome ≡ r → Kept (and_then o next)
      go (Err e) q = subst Kept (sym (then_no o next q)) (first (subst (λ (x : AppOut). EachStep P x.steps) (then_no o next q) each))
      go (Ok tt) q =
          let x : AppOut = next o.vol o.ans.medium o.ans.store o.ans.appender in
          let p = each_append P o.steps x.steps (subst (λ (y : AppOut). EachStep P y.steps) (then_done o next q) each) in
          subst Kept (sym (then_done o next q)) (on q ((first p.0).1 q) p.1)

  module _ (vol : List ℕ) (m : Medium) (st : Store) (a : Appender) (good : Good vol st) (fit : Fit a st) (going : Going vol st a) where
    sane : Sane st.head (sectors_of vol)
    sane = (store_facts st (sectors_of vol) good.ok).head

    few : a.position ≤ 6143
    few = near_few (disk_of vol st) a.slot a.position sane.chunks_most going.1

    -- S-3: the map still tells the table
    after_edit : (e : Edit) → Fitting st e → Edited e [] vol st (commit_of e [] vol m st).vol (commit_of e [] vol m st).ans.store
        → Mapped (commit_of e [] vol m st).vol (commit_of e [] vol m st).ans.store
    after_edit e f done = edited_mapped [] vol st _ _ sane e f (lit≤ tt) done (store_facts st (sectors_of vol) good.ok).map going.0.1

    no : (v : List ℕ) (u : Medium) (s : Store) (e : Error) → KeptIf (stopped v u s a e)
    no v u s e _ = (few, λ d. clash refl d)

    -- ---- a chunk is linked

    module _ (partial : Bool) (records : ℕ) (fewer : partial ≡ true → records < st.head.chunk) (small : records < 512) where
      module _ (c : ℕ) (found : free_of vol m st ≡ Ok (Some c)) where
        abbrev edit : Edit
        edit = Extend a.slot a.position c a.chunk partial records

        abbrev o : Out
        o = commit_of edit [] vol m st

        chunks : o.ans.store.head.chunks ≡ st.head.chunks
        chunks = (commit_stands edit [] vol m st good (lit≤ tt)).chunks

        linked_near : o.ans.outcome ≡ Ok tt → EachSkipped P o.skipped → Going o.vol o.ans.store (moved_to c a)
        linked_near q each =
            let unused = free_chunk vol m st (store_facts st (sectors_of vol) good.ok) going.0.1 found in
            let hp : a.position + 1 < 32768 = omega (arith, few) in
            let r = rules.commit edit vol m st good (fit.slot, hp, unused.0, fit.chunk, small) going.0.0 q each in (
              (r.1, after_edit edit (fit.slot, hp, unused.0, fit.chunk, fewer) r.0),
              near_on (disk_of vol st) (disk_of o.vol o.ans.store) a.slot a.position (a.position + 1) 1 chunks
                  (λ e. extended_entries sane r.0 fit.slot hp unused.0 fit.chunk a.slot fit.slot ∙ e)
                  (extended_more sane r.0 fit.slot hp unused.0 fit.chunk fewer unused.1) (le_refl (a.position + 1)) going.1,
            )

        link_near : KeptIf (link_out vol m st a partial records c)
        unfolding EachStep
        link_near each = go o.ans.outcome refl
          where
            go : (r : Result Unit Error) → o.ans.outcome ≡ r → Kept (link_out vol m st a partial records c)
            go (Err e) q = subst Kept (sym (link_refused vol m st a partial records c q)) (few, λ d. clash refl d)
            go (Ok tt) q =
                let h : EachSkipped P o.skipped × Unit = subst (λ (x : AppOut). EachStep P x.steps) (link_made vol m st a partial records c q) each in
                let g : Going o.vol o.ans.store (moved_to c a) = linked_near q h.0 in
                subst Kept (sym (link_made vol m st a partial records c q))
                (near_few (disk_of o.vol o.ans.store) a.slot (a.position + 1) (omega (arith, chunks, sane.chunks_most)) g.1, λ _. g)

    -- ---- the oldest file goes

    abbrev made : ℕ → Out
    made slot = commit_of (Remove slot) [] vol m st

    remove_near : (slot id : ℕ) → slot < 64 → {name : List ℕ} {i : ℕ} → (disk_of vol st).entry slot ≡ named name i
        → (remove_of vol m st slot id).ans.outcome ≡ Ok tt → EachSkipped P (remove_of vol m st slot id).skipped
        → Going (remove_of vol m st slot id).vol (remove_of vol m st slot id).ans.store a
    unfolding remove_of
    remove_near slot id below was =
        on_done_keeps (λ (x : Out). x.ans.outcome ≡ Ok tt → EachSkipped P x.skipped → Going x.vol x.ans.store a) (made slot).ans.outcome _ _
        (λ d _ each.
        let t : Store = (made slot).ans.store in
        let r = rules.commit (Remove slot) vol m st good below going.0.0 d each in
        let k = (commit_stands (Remove slot) [] vol m st good (lit≤ tt)).chunks in
        let u = writer_unchanged (made slot).vol t (closed_for id t) refl refl in (
          (rules.writer (made slot).vol t (closed_for id t) refl refl refl r.1, mapped_kept refl u.links refl (after_edit (Remove slot) below r.0)),
          near_same (disk_of (made slot).vol t) (disk_of (made slot).vol (closed_for id t)) a.slot a.position fit.slot refl u.entries u.links
              (near_gone vol st sane slot below was (made slot).vol t k r.0 a.slot a.position fit.slot going.1),
        ))
        (λ e d q. clash d q)

    abbrev Went : GoneOut → Type 0
    Went x = x.ans.any ≡ true → EachSkipped P x.skipped → Going x.vol x.ans.store a

    module _ (dir : List ℕ) (spared : Option ℕ) where
      found_near : (f : Result (Option Old) Error) → oldest_of vol m st dir spared ≡ f → Went (oldest_gone vol m st f)
      unfolding oldest_gone gone_of entry_view
      found_near (Err e) q = λ y. absurd (false≢true y)
      found_near (Ok None) q = λ y. absurd (false≢true y)
      found_near (Ok (Some old)) q =
          let f = (oldest_file vol m st dir spared q).file in
          on_done_keeps Went (remove_of vol m st old.slot old.id).ans.outcome _ _
          (λ d _. remove_near old.slot old.id f.below (ap (entry_view (entry_at vol st old.slot)) f.entry) d)
          (λ e _ y. absurd (false≢true y))

      gone_near : Went (remove_oldest_of vol m st dir spared)
      unfolding remove_oldest_of
      gone_near = found_near (oldest_of vol m st dir spared) refl

  -- ---- another chunk

  module _ (vol : List ℕ) (m : Medium) (st : Store) (a : Appender) (good : Good vol st) (fit : Fit a st) (going : Going vol st a)
      (partial : Bool) (records : ℕ) (fewer : partial ≡ true → records < st.head.chunk) (small : records < 512) where
    abbrev g : GoneOut
    g = remove_oldest_of vol m st (dir_bytes a.dir) (open_file st.writer)

    stop : (e : Error) → KeptIf (stopped g.vol g.ans.medium g.ans.store a e)
    stop = no vol m st a good fit going g.vol g.ans.medium g.ans.store

    abbrev once : AppOut
    once =
        on_pick (free_of g.vol g.ans.medium g.ans.store) (stopped g.vol g.ans.medium g.ans.store a)
        (stopped g.vol g.ans.medium g.ans.store a Corrupt) (link_out g.vol g.ans.medium g.ans.store a partial records)

    once_near : Going g.vol g.ans.store a → KeptIf once
    once_near x =
        let k = oldest_stands vol m st (dir_bytes a.dir) (open_file st.writer) good in
        on_pick_keeps KeptIf (free_of g.vol g.ans.medium g.ans.store) _ _ _ stop (stop Corrupt)
        (λ c q. link_near g.vol g.ans.medium g.ans.store a k.good (fit_still k.chunks k.chunk fit) x
        partial records (λ t. rw k.chunk (fewer t)) small c q)

    rolled_near : KeptIf (rolled_out vol m st a partial records)
    unfolding rolled_out EachStep
    rolled_near =
        on_done_keeps KeptIf g.ans.outcome _ _
        (λ _. pick_keeps_by KeptIf g.ans.any _ _
        (λ y each. once_near (gone_near vol m st a good fit going (dir_bytes a.dir) (open_file st.writer) y each.0) each.1)
        (λ _. stop Full))
        (λ e _. stop e)

    extend_near : KeptIf (extend_of vol m st a partial records)
    unfolding extend_of
    extend_near =
        let as_given : (e : Error) → KeptIf (stopped vol m st a e) = no vol m st a good fit going vol m st in
        pick_keeps KeptIf (leb 32767 a.position) _ _ (as_given Corrupt)
        (on_pick_keeps KeptIf (free_of vol m st) _ _ _ as_given
        (pick_keeps KeptIf a.rolls _ _ rolled_near (as_given Full))
        (λ c q. link_near vol m st a good fit going partial records fewer small c q))

  -- ---- a record

  record_near : (vol : List ℕ) (m : Medium) (st : Store) (a : Appender) → Good vol st → Fit a st → Going vol st a → (index : ℕ) → index < st.head.chunk
      → KeptIf (record_out index vol m st a)
  unfolding record_out data_at
  record_near vol m st a good fit going index h =
      let fine : Sane st.head (sectors_of vol) = sane vol m st a good fit going in
      let w : WriteOut = record_write index vol m st a in
      let kept = record_kept vol m st a good fit index h in
      let same : (j : ℕ) → j < 64 → sector_at w.vol j ≡ sector_at vol j = λ j l. kept.same j (inl (omega arith)) in
      let body : (k : ℕ) → k < body_of st.head.chunks → sector_at w.vol (body_at st k) ≡ sector_at vol (body_at st k)
      = λ k l. same (body_at st k) (omega (arith, base_most st.copy, fine.chunks_most)) in
      let on : Going w.vol st a = (
        (rules.beyond vol w.vol st kept.size same going.0.0, mapped_kept {st = st} {t = st} refl (links_stay vol st w.vol st refl refl body) refl going.0.1),
        near_same (disk_of vol st) (disk_of w.vol st) a.slot a.position fit.slot refl (entries_stay vol st w.vol st body)
            (links_stay vol st w.vol st refl refl body) going.1,
      ) in
      on_done_keeps KeptIf w.ans.outcome _ _
      (λ _ _. (few vol m st a good fit going, λ _. on))
      (λ e _. no vol m st a good fit going w.vol w.ans.medium st e)

  next_near : (vol : List ℕ) (m : Medium) (st : Store) (a : Appender) → Good vol st → Fit a st → Going vol st a → (partial : Bool) (records : ℕ)
      → (partial ≡ true → records < st.head.chunk) → records < 512 → KeptIf (and_then (extend_of vol m st a partial records) (record_out 0))
  next_near vol m st a good fit going partial records fewer small =
      let o : AppOut = extend_of vol m st a partial records in
      let g = extend_goes vol m st a partial records good fit in
      then_near o (record_out 0) (extend_near vol m st a good fit going partial records fewer small)
      (λ _ x. record_near o.vol o.ans.medium o.ans.store o.ans.appender g.0.good g.1 x 0
      (store_facts o.ans.store (sectors_of o.vol) g.0.good.ok).head.size_least)

  -- ---- the calls

  module _ (vol : List ℕ) (m : Medium) (st : Store) (a : Appender) (good : Good vol st) (fit : Fit a st) (going : Going vol st a) where
    write_near : KeptIf (write_out vol m st a)
    unfolding write_out tail_ok
    write_near =
        on_tail_keeps KeptIf a.tail _ _ _
        (λ i _. pick_keeps_by KeptIf (ltb i st.head.chunk) _ _
        (λ h. record_near vol m st a good fit going i (ltb-true i st.head.chunk h))
        (λ _. next_near vol m st a good fit going false 0 (λ t. absurd (false≢true t)) (omega arith)))
        (λ n q.
        let t : tail_ok (Reopened n) st.head.chunk ≡ true = ap (λ (x : Tail). tail_ok x st.head.chunk) (sym q) ∙ fit.tail in
        let h : n < st.head.chunk = ltb-true _ _ (and_true (leb 1 n) (ltb n st.head.chunk) t).1 in
        next_near vol m st a good fit going true n (λ _. h) (omega (arith, (sane vol m st a good fit going).size_most)))
        (no vol m st a good fit going vol m st Stale)

    flush_near : KeptIf (flush_of vol m st a)
    unfolding flush_of
    flush_near = on_done_keeps KeptIf (write_out vol m st a).ans.outcome _ _ (λ _. write_near) (λ e _ each. ((write_near each).0, λ d. clash refl d))

    sync_kept : KeptIf (sync_of vol m st a)
    unfolding sync_of
    sync_kept = pick_keeps KeptIf (eqb a.fill 0) _ _ (λ _. (few vol m st a good fit going, λ _. going)) flush_near

  byte_near : (b : ℕ) (vol : List ℕ) (m : Medium) (st : Store) (a : Appender) → Good vol st → Fit a st → a.fill < 486 → Going vol st a → KeptIf (put_byte b vol m st a)
  unfolding put_byte
  byte_near b vol m st a good fit h going =
      pick_keeps KeptIf (eqb (a.fill + 1) 486) _ _
      (flush_near vol m st (pushed b a) good (pushed_fit b a st fit h) going)
      (λ _. (few vol m st a good fit going, λ _. going))

  append_kept : (bytes vol : List ℕ) (m : Medium) (st : Store) (a : Appender) → Good vol st → Fit a st → a.fill < 486 → Going vol st a → KeptIf (append_of bytes vol m st a)
  unfolding append_of
  append_kept [] vol m st a good fit h going = λ _. (few vol m st a good fit going, λ _. going)
  append_kept (b ∷ bs) vol m st a good fit h going =
      let o : AppOut = put_byte b vol m st a in
      let p = byte_puts vol m st a good fit h b in
      then_near o (append_of bs) (byte_near b vol m st a good fit h going)
      (λ q x. append_kept bs o.vol o.ans.medium o.ans.store o.ans.appender p.goes.0.good p.goes.1 (p.room q) x)

  -- an appender that passes number 3, a call, and where its appender stands after it
  module _ (vol : List ℕ) (m : Medium) (st : Store) (a : Appender) (full : length a.buffer ≡ 486) (count : length st.head.crcs ≡ 24)
      (ok : appender_ok a st ≡ true) (map : Mapped vol st) (fine : Fine vol st) where
    call_near : (o : AppOut) → (May vol st a → Good vol st → Going vol st a → KeptIf o)
        → StaysNear P (offered vol m st a o)
    unfolding offered
    call_near o work =
        let low : a.position ≤ 2047 = appender_low a st ok in
        on_done_keeps (StaysNear P) (may_write vol st a) (call_of o) _
        (λ q each.
        let y : May vol st a = may_facts vol st a full q in
        (work y (record { ok = y.ok; count = count }) ((fine, map), linked (omega arith)) each).0)
        (λ e _ _. omega arith)

    append_low : (bytes : List ℕ) → StaysNear P (append_call vol m st a bytes)
    unfolding append_call
    append_low bytes = call_near (append_of bytes vol m st a) (λ y good going. append_kept bytes vol m st a good y.fit y.room going)

    sync_low : StaysNear P (sync_call vol m st a)
    unfolding sync_call
    sync_low = call_near (sync_of vol m st a) (λ y good going. sync_kept vol m st a good y.fit going)

-- ---- the laws

module _ (vol : List ℕ) (m : Medium) (st : Store) (a : Appender) (full : length a.buffer ≡ 486) (count : length st.head.crcs ≡ 24)
    (ok : appender_ok a st ≡ true) (map : Mapped vol st) where
  -- on any volume: each body sector that the call left unwritten held the bytes due there
  pub append_near : (bytes : List ℕ) → StaysNear Honest (append_call vol m st a bytes)
  append_near = append_low honest vol m st a full count ok map tt

  pub sync_near : StaysNear Honest (sync_call vol m st a)
  sync_near = sync_low honest vol m st a full count ok map tt

  -- between the calls: none of them had the checksum of the bytes due, and other bytes
  pub append_near_weaker : Inv vol st → (bytes : List ℕ) → StaysNear Distinct (append_call vol m st a bytes)
  append_near_weaker inv = append_low distinct vol m st a full count ok map inv

  pub sync_near_weaker : Inv vol st → StaysNear Distinct (sync_call vol m st a)
  sync_near_weaker inv = sync_low distinct vol m st a full count ok map inv
