-- The body sectors that a commit left unwritten, as its answer lists them: each has the checksum of the bytes due there, and the premise on those listed
-- is the premise on the commit. Assumes nothing.
use Rattle.std.specs.Prelude.{Ok}
use mathlib.Core.Path.{◌≡◌, refl, sym, ap, ◌∙◌, subst}
use mathlib.Core.Bool.{Bool, true, false}
use mathlib.Core.List.{List, ◌∷◌}
use Prim.Native.Nat.{ℕ, zero, suc, ◌+◌, ◌-◌, ◌<◌, ◌≤◌}
use native.Mathlib.Omega.{arith}
use borrow.Author.Tests.{eqb-true, eqb-false}
use lib.Dec.{eqb}
use lib.ListN.{length}
use Rattle.le.specs.Choice.{pick}
use Rattle.le.proofs.Choices.{pick_keeps, pick_keeps_by, pick_true}
use Rattle.checksum.specs.Crc.{crc32_of}
use Rattle.medium.specs.declared.Medium.{Medium}
use Rattle.medium.specs.Sector.{sectors_of, sector_at}
use Rattle.medium.specs.Frame.{Kept}
use Rattle.medium.proofs.Laws.{on_done_keeps}
use Rattle.handles.specs.declared.Store.{Store}
use Rattle.handles.specs.Body.{body_at}
use Rattle.handles.specs.Handles.{body_of, base_of, store_ok}
use Rattle.header.specs.Copies.{current_of}
use Rattle.header.specs.Header.{with_crcs}
use Rattle.plan.specs.declared.Edit.{Edit}
use Rattle.plan.specs.Copy.{Plan, Skipped, Distinct, EachSkipped, Out, due_bytes, skips, skipped_at, skipped_from, map_after, last_of, copy_out}
use Rattle.plan.specs.Edit.{edited_of, head_after}
use Rattle.commit.specs.Commit.{is_current, commit_plan, commit_of}
use Rattle.safe.specs.Copy.{body_count, Good}
use Rattle.safe.specs.Inv.{Inv, plan_of, CommitDistinct}
use Rattle.safe.proofs.Frame.{clash}
use Rattle.safe.proofs.Copy.{copy_frame, copy_finished}
use Rattle.safe.proofs.Sums.{skipped_sum, finished_due}
use Rattle.safe.proofs.Commit.{plan_good, plan_tied}

-- ---- the list, and the sectors themselves

module _ (P : Skipped → Type 0) (p : Plan) (vol : List ℕ) (m : Medium) where
  -- what holds of each that is left holds of the list
  pub each_from : (n k : ℕ) → ((i : ℕ) → k ≤ i → i < k + n → skips p vol m i ≡ true → P (skipped_at p vol i)) → EachSkipped P (skipped_from p vol m n k)
  unfolding skipped_from EachSkipped
  each_from zero k each = tt
  each_from (suc n) k each =
      let more : EachSkipped P (skipped_from p vol m n (k + 1)) = each_from n (k + 1) (λ i a b. each i (omega arith) (omega arith)) in
      pick_keeps_by (EachSkipped P) (skips p vol m k) _ _ (λ u. (each k (omega arith) (omega arith) u, more)) (λ _. more)

  -- and the other way round
  pub each_at : (n k i : ℕ) → k ≤ i → i < k + n → skips p vol m i ≡ true → EachSkipped P (skipped_from p vol m n k) → P (skipped_at p vol i)
  unfolding skipped_from EachSkipped
  each_at zero k i a b u = absurd (let f : ⊥ = omega arith in f)
  each_at (suc n) k i a b u = go (eqb i k) refl (λ c. each_at n (k + 1) i c (omega arith) u)
    where
      go : (t : Bool) → eqb i k ≡ t → (k + 1 ≤ i → EachSkipped P (skipped_from p vol m n (k + 1)) → P (skipped_at p vol i))
          → EachSkipped P (pick (skips p vol m k) (skipped_at p vol k ∷ skipped_from p vol m n (k + 1)) (skipped_from p vol m n (k + 1))) → P (skipped_at p vol i)
      go true e more h =
          let q : i ≡ k = eqb-true i k e in
          let first : EachSkipped P (skipped_at p vol k ∷ skipped_from p vol m n (k + 1)) = subst (EachSkipped P) (pick_true _ _ (ap (skips p vol m) (sym q) ∙ u)) h in
          subst (λ (j : ℕ). P (skipped_at p vol j)) (sym q) first.0
      go false e more h =
          more (omega (arith, eqb-false i k e))
          (pick_keeps (λ (l : List Skipped). EachSkipped P l → EachSkipped P (skipped_from p vol m n (k + 1))) (skips p vol m k) _ _ (λ x. x.1) (λ x. x) h)

module _ (p : Plan) (vol : List ℕ) (m : Medium) where
  copy_lists : (copy_out p vol m).ans.outcome ≡ Ok tt → (copy_out p vol m).skipped ≡ skipped_from p vol m (body_count p) 0
  unfolding copy_out last_of
  copy_lists =
      on_done_keeps Right _ _ _
      (λ _. on_done_keeps Right _ _ _ (λ _. on_done_keeps Right _ _ _ (λ _ _. refl) (λ e _. clash refl)) (λ e _. clash refl))
      (λ e _. clash refl)
    where
      Right : Out → Type 0
      Right o = o.ans.outcome ≡ Ok tt → o.skipped ≡ skipped_from p vol m (body_count p) 0

-- ---- of a commit

-- the bytes held have the checksum of the bytes due
abbrev pub Alike : Skipped → Type 0
Alike s = crc32_of s.held ≡ crc32_of s.due

-- what an accepted one leaves where each held the bytes due: the edit's header but for its checksums, the old body edited, and all else as it was
pub record CommitDue (edit : Edit) (name vol : List ℕ) (st : Store) (o : Out) : Type 0 where
  pub head : o.ans.store.head ≡ with_crcs (head_after edit st.head) o.ans.store.head.crcs
  pub body : (k : ℕ) → k < body_of st.head.chunks → sector_at o.vol (body_at o.ans.store k) ≡ edited_of edit name k (sector_at vol (body_at st k))
  pub free : o.ans.store.free ≡ map_after edit vol st st.head.chunks
  pub frame : Kept (base_of (1 - st.copy)) 25 vol o.vol

module _ (edit : Edit) (name vol : List ℕ) (m : Medium) (st : Store) (accepted : (commit_of edit name vol m st).ans.outcome ≡ Ok tt) where
  abbrev plan : Plan
  plan = plan_of edit name vol m st

  -- it read the headers, found the store current, and wrote the copy
  pub commit_copies : ((current_of vol m).outcome ≡ Ok tt) × (is_current (current_of vol m) st ≡ true) × (commit_of edit name vol m st ≡ copy_out plan vol m)
  unfolding commit_of
  commit_copies =
      on_done_keeps Right _ _ _
      (λ d. pick_keeps_by Right _ _ _ (λ c. pick_keeps Right _ _ _ (clash refl) (λ q. (d, c, refl))) (λ _. clash refl))
      (λ e _. clash refl)
      accepted
    where
      Right : Out → Type 0
      Right o = o.ans.outcome ≡ Ok tt → ((current_of vol m).outcome ≡ Ok tt) × (is_current (current_of vol m) st ≡ true) × (o ≡ copy_out plan vol m)

  copied : (copy_out plan vol m).ans.outcome ≡ Ok tt
  copied = ap (λ (o : Out). o.ans.outcome) (sym commit_copies.2) ∙ accepted

  -- what it lists
  commit_lists : (commit_of edit name vol m st).skipped ≡ skipped_from plan vol m (body_count plan) 0
  commit_lists = ap (λ (o : Out). o.skipped) commit_copies.2 ∙ copy_lists plan vol m copied

  commit_each : (P : Skipped → Type 0) → EachSkipped P (commit_of edit name vol m st).skipped
      → (k : ℕ) → k < body_count plan → skips plan vol m k ≡ true → P (skipped_at plan vol k)
  commit_each P each k l u = each_at P plan vol m (body_count plan) 0 k (omega arith) (omega arith) u (subst (EachSkipped P) commit_lists each)

  -- so no more is asked of them than that no two sectors have one checksum
  pub commit_alike : Inv vol st → EachSkipped Alike (commit_of edit name vol m st).skipped
  commit_alike inv =
      subst (EachSkipped Alike) (sym commit_lists)
      (each_from Alike plan vol m (body_count plan) 0 (λ i _ b u. skipped_sum plan vol m (plan_tied edit name vol m st inv commit_copies.0) i (omega arith) u))

  pub commit_distinct : EachSkipped Distinct (commit_of edit name vol m st).skipped → CommitDistinct edit name vol m st
  commit_distinct each k l u = commit_each Distinct each k l u

  -- on any volume: where each of them held the bytes due, the new body is the old one edited
  pub commit_due : store_ok st (sectors_of vol) ≡ true → length st.head.crcs ≡ 24 → length name ≤ 40
      → EachSkipped (λ s. s.held ≡ s.due) (commit_of edit name vol m st).skipped → CommitDue edit name vol st (commit_of edit name vol m st)
  unfolding commit_plan head_after due_bytes
  commit_due ok count short each =
      let good : Good plan vol = plan_good edit name vol m st ok count short in
      let done = copy_finished plan vol m good copied in
      let c : (copy_out plan vol m).ans.store.copy ≡ 1 - st.copy = ap (λ (s : Store). s.copy) done.store in
      subst (CommitDue edit name vol st) (sym commit_copies.2)
      (record {
        head = done.head;
        free = ap (λ (s : Store). s.free) done.store;
        body = λ k l. rw c (finished_due done (commit_each (λ s. s.held ≡ s.due) each) k l);
        frame = copy_frame plan vol m good;
      })
