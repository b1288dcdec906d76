-- A commit, whatever the writes left and whatever the medium reads: refused it leaves the old store, accepted the new one. Assumes nothing.
use Rattle.std.specs.Prelude.{Err, Ok}
use mathlib.Core.Path.{◌≡◌, refl, sym, ap, ◌∙◌}
use mathlib.Core.Bool.{true}
use mathlib.Core.List.{List}
use mathlib.Core.Logic.{◌⊎◌, inl}
use Prim.Native.Nat.{ℕ, ◌+◌, ◌-◌, ◌^◌, ◌<◌, ◌≤◌}
use native.Mathlib.Omega.{arith}
use borrow.Author.Tests.{eqb-false}
use lib.Dec.{eqb}
use lib.ListN.{length}
use Rattle.le.proofs.Choices.{pick_keeps, pick_keeps_by}
use Rattle.le.proofs.Parts.{length_zeros}
use Rattle.medium.specs.declared.Error.{Error}
use Rattle.medium.specs.declared.Error.TheVariants.{Stale, Spent}
use Rattle.medium.specs.declared.Medium.{Medium}
use Rattle.medium.specs.Frame.{Kept}
use Rattle.medium.specs.Sector.{sectors_of}
use Rattle.medium.proofs.Laws.{on_done_keeps}
use Rattle.medium.proofs.Frame.{kept_none, spends_none}
use Rattle.handles.specs.declared.Header.{Header}
use Rattle.handles.specs.declared.Store.{Store}
use Rattle.handles.specs.Handles.{base_of, store_ok}
use Rattle.handles.proofs.Laws.{Held, store_facts}
use Rattle.header.specs.declared.codec.Decoded.{Decoded}
use Rattle.header.specs.declared.answers.Current.{Current}
use Rattle.header.specs.declared.codec.Replica.TheVariants.{Absent}
use Rattle.header.specs.Header.{ours, bare, InRange}
use Rattle.header.specs.Copies.{is_ours, copy_of, taken_of, current_of}
use Rattle.plan.specs.declared.Edit.{Edit}
use Rattle.plan.specs.declared.Edit.TheVariants.{Format, Create, Extend, Remove}
use Rattle.plan.specs.Edit.{next_after, cursor_after, head_after, Fits}
use Rattle.plan.specs.Copy.{Plan, Out, due_bytes, refused_out, copy_out}
use Rattle.plan.proofs.Maps.{map_after_ok}
use Rattle.commit.specs.Commit.{is_current, commit_plan, commit_of}
use Rattle.commit.proofs.Absent.{commit_first}
use Rattle.commit.proofs.Keeps.{cursor_after_lem, sane_after}
use Rattle.safe.specs.Copy.{Good, Tied}
use Rattle.safe.specs.Mounts.{Stands, Newest}
use Rattle.safe.specs.Inv.{Inv, Ranged, plan_of, CommitDistinct, CommitStopped, CommitMade}
use Rattle.safe.proofs.Frame.{clash, body_beside}
use Rattle.safe.proofs.Copy.{copy_frame, copy_used, copy_stopped, copy_finished}
use Rattle.safe.proofs.Sums.{finished_body}
use Rattle.safe.proofs.Current.{stands_choice, current_choice}
use Rattle.safe.proofs.Mounts.{stopped_target, finished_stands}
use Rattle.safe.proofs.Ranged.{ranged_finished}
use Rattle.safe.proofs.Bodies.{sound_tied}
use Rattle.safe.proofs.Invs.{inv_held, kept_records, stopped_inv, finished_inv}

-- ---- the header after an edit has its widths

next_lt : (e : Edit) (h : Header) → Fits e h.chunks → h.next_id < 2 ^ 32 → next_after e h < 2 ^ 32
unfolding next_after
next_lt Format h f n = n
next_lt (Create slot id chunk) h f n = f.1
next_lt (Extend slot position next last partial records) h f n = n
next_lt (Remove slot) h f n = n

-- ---- on any volume

module _ (edit : Edit) (name vol : List ℕ) (m : Medium) (st : Store) where
  -- the ways to an answer
  ways : (P : Out → Type 0) → ((e : Error) → P (refused_out st vol m e))
      → ((current_of vol m).outcome ≡ Ok tt → (st.head.generation ≡ 2 ^ 64 - 1 → ⊥) → P (copy_out (plan_of edit name vol m st) vol m))
      → P (commit_of edit name vol m st)
  unfolding commit_of
  ways P none made =
      on_done_keeps P (current_of vol m).outcome _ _
      (λ d. pick_keeps P (is_current (current_of vol m) st) _ _
      (pick_keeps_by P (eqb st.head.generation (2 ^ 64 - 1)) _ _ (λ _. none Spent) (λ g. made d (eqb-false _ _ g)))
      (none Stale))
      (λ e _. none e)

  module _ (ok : store_ok st (sectors_of vol) ≡ true) where
    held : Held st (sectors_of vol)
    held = store_facts st (sectors_of vol) ok

    -- into the copy beside the store's
    two : st.copy + (1 - st.copy) ≡ 1
    two = omega (arith, held.copy)

    back : 1 - (1 - st.copy) ≡ st.copy
    back = omega (arith, held.copy)

    -- its plan fits the volume
    pub plan_good : length st.head.crcs ≡ 24 → length name ≤ 40 → Good (plan_of edit name vol m st) vol
    unfolding commit_plan head_after
    plan_good count short =
        record {
          enough = held.enough;
          chunks = held.head.chunks_most;
          count = count;
          first = length_zeros 512;
          name = short;
          own = λ _. two;
        }

    -- refused: it wrote at most the copy beside the store's, which is as it was or absent
    pub commit_beside : length st.head.crcs ≡ 24 → length name ≤ 40 → {e : Error} → (commit_of edit name vol m st).ans.outcome ≡ Err e
        → Kept (base_of (1 - st.copy)) 25 vol (commit_of edit name vol m st).vol
        × ((copy_of (commit_of edit name vol m st).vol (base_of (1 - st.copy)) ≡ copy_of vol (base_of (1 - st.copy)))
        ⊎ (copy_of (commit_of edit name vol m st).vol (base_of (1 - st.copy)) ≡ bare Absent))
    unfolding commit_plan
    commit_beside count short {e} =
        let p : Plan = plan_of edit name vol m st in
        let good : Good p vol = plan_good count short in
        let b : ℕ = base_of (1 - st.copy) in
        ways (λ (o : Out). o.ans.outcome ≡ Err e → Kept b 25 vol o.vol × ((copy_of o.vol b ≡ copy_of vol b) ⊎ (copy_of o.vol b ≡ bare Absent)))
        (λ x _. (kept_none b 25 vol, inl refl))
        (λ d g q. (copy_frame p vol m good, stopped_target p vol m good (commit_first (current_of vol m) edit name st (sectors_of vol)) q))

    module _ (stands : Stands vol st.copy st.head) where
      -- the copy beside the one that is written is the store's
      own_head : (g : Header) → copy_of vol (base_of (1 - (1 - st.copy))) ≡ ours g → g ≡ st.head
      own_head g e = ap (λ (x : Decoded). x.head) (sym e ∙ ap (λ (c : ℕ). copy_of vol (base_of c)) back ∙ stands.found)

      module _ (range : InRange st.head) (fits : Fits edit st.head.chunks) where
        after_range : (st.head.generation ≡ 2 ^ 64 - 1 → ⊥) → InRange (head_after edit st.head)
        unfolding head_after
        after_range less =
            let c : cursor_after edit st.head < st.head.chunks = cursor_after_lem edit st.head held.head.chunks_least held.head.cursor in
            record {
              id = range.id;
              generation = omega (arith, range.generation);
              next = next_lt edit st.head fits range.next;
              cursor = omega (arith, range.chunks);
              chunks = range.chunks;
              chunk = range.chunk;
              count = range.count;
              crcs = range.crcs;
              past = range.past;
            }

        plan_newest : (st.head.generation ≡ 2 ^ 64 - 1 → ⊥) → Newest (plan_of edit name vol m st) vol
        unfolding commit_plan head_after
        plan_newest less =
            record {
              number = omega arith;
              sane = sane_after edit st.head (sectors_of vol) st.head.crcs held.head;
              range = after_range less;
              known = rw (back, stands.found) refl;
              older = λ g e. rw (own_head g e) (omega arith);
            }

        -- accepted: the new copy stands, and each valid copy has its widths
        pub commit_stands : length name ≤ 40 → (commit_of edit name vol m st).ans.outcome ≡ Ok tt
            → Stands (commit_of edit name vol m st).vol (commit_of edit name vol m st).ans.store.copy (commit_of edit name vol m st).ans.store.head
            × (Ranged vol → Ranged (commit_of edit name vol m st).vol)
        unfolding commit_plan
        commit_stands short =
            let p : Plan = plan_of edit name vol m st in
            let good : Good p vol = plan_good range.count short in
            ways (λ (o : Out). o.ans.outcome ≡ Ok tt → Stands o.vol o.ans.store.copy o.ans.store.head × (Ranged vol → Ranged o.vol))
            (λ x. clash refl)
            (λ d less q.
            let new : Newest p vol = plan_newest less in (
              rw (ap (λ (s : Store). s.copy) (copy_finished p vol m good q).store) (finished_stands p vol m good new q),
              ranged_finished p vol m good new q,
            ))

-- ---- between the calls

module _ (edit : Edit) (name vol : List ℕ) (m : Medium) (st : Store) (inv : Inv vol st) where
  -- its plan meets the premises
  fitting : length name ≤ 40 → Good (plan_of edit name vol m st) vol
  fitting = plan_good edit name vol m st inv.ok inv.range.count

  module _ (d : (current_of vol m).outcome ≡ Ok tt) where
    found : current_of vol m ≡ taken_of st.copy st.head (copy_of vol (base_of (1 - st.copy))).head (is_ours (copy_of vol (base_of (1 - st.copy))).kind)
    found = current_choice vol m d ∙ stands_choice vol st.head st.copy inv.sound.stands

    pub plan_tied : Tied (plan_of edit name vol m st) vol
    unfolding commit_plan head_after taken_of
    plan_tied =
        sound_tied (plan_of edit name vol m st) vol inv.sound (two edit name vol m st inv.ok) refl refl
        (ap (λ (c : Current). c.known) found) (ap (λ (c : Current). c.listed) found)

  -- ---- the laws

  module _ (short : length name ≤ 40) where
    pub commit_stopped : {e : Error} → (commit_of edit name vol m st).ans.outcome ≡ Err e → CommitStopped vol m st (commit_of edit name vol m st)
    unfolding commit_plan
    commit_stopped {e} =
        let p : Plan = plan_of edit name vol m st in
        let good : Good p vol = fitting short in
        let other : st.copy + (1 - st.copy) ≡ 1 = two edit name vol m st inv.ok in
        ways edit name vol m st (λ (o : Out). o.ans.outcome ≡ Err e → CommitStopped vol m st o)
        (λ x _. record {
          store = refl;
          inv = inv;
          body = λ k l. refl;
          records = λ j l. refl;
          frame = kept_none (base_of (1 - st.copy)) 25 vol;
          used = spends_none m;
        })
        (λ d g q. record {
          store = (copy_stopped p vol m good q).0;
          inv = stopped_inv p vol m good (commit_first (current_of vol m) edit name st (sectors_of vol)) inv other q;
          body = body_beside st.copy (1 - st.copy) other (copy_frame p vol m good);
          records = kept_records (1 - st.copy) (copy_frame p vol m good);
          frame = copy_frame p vol m good;
          used = copy_used p vol m good;
        })

    module _ (fits : Fits edit st.head.chunks) where
      copy_inv : (current_of vol m).outcome ≡ Ok tt → (st.head.generation ≡ 2 ^ 64 - 1 → ⊥) → (copy_out (plan_of edit name vol m st) vol m).ans.outcome ≡ Ok tt
          → Inv (copy_out (plan_of edit name vol m st) vol m).vol (copy_out (plan_of edit name vol m st) vol m).ans.store
      unfolding commit_plan head_after
      copy_inv d less =
          finished_inv (plan_of edit name vol m st) vol m (fitting short) (map_after_ok edit vol st (inv_held inv).map)
          (plan_newest edit name vol m st inv.ok inv.sound.stands inv.range fits less) (plan_tied d)
          (λ g e _. rw (back edit name vol m st inv.ok, own_head edit name vol m st inv.ok inv.sound.stands g e) inv.sound.own)

      -- the new store is sound even without the premise on the sectors left unwritten
      pub commit_inv : (commit_of edit name vol m st).ans.outcome ≡ Ok tt → Inv (commit_of edit name vol m st).vol (commit_of edit name vol m st).ans.store
      commit_inv = ways edit name vol m st (λ (o : Out). o.ans.outcome ≡ Ok tt → Inv o.vol o.ans.store) (λ x. clash refl) copy_inv

      pub commit_made : CommitDistinct edit name vol m st → (commit_of edit name vol m st).ans.outcome ≡ Ok tt → CommitMade edit name vol m st (commit_of edit name vol m st)
      unfolding commit_plan head_after due_bytes
      commit_made distinct =
          let p : Plan = plan_of edit name vol m st in
          let good : Good p vol = fitting short in
          let kept = copy_frame p vol m good in
          ways edit name vol m st (λ (o : Out). o.ans.outcome ≡ Ok tt → CommitMade edit name vol m st o)
          (λ x. clash refl)
          (λ d less q.
          let done = copy_finished p vol m good q in
          let c : (copy_out p vol m).ans.store.copy ≡ 1 - st.copy = ap (λ (s : Store). s.copy) done.store in
          record {
            inv = copy_inv d less q;
            copy = c;
            head = done.head;
            writer = ap (λ (s : Store). s.writer) done.store;
            free = ap (λ (s : Store). s.free) done.store;
            body = λ k l. rw c (finished_body done (plan_tied d) distinct k l);
            records = kept_records (1 - st.copy) kept;
            frame = kept;
            used = copy_used p vol m good;
          })
