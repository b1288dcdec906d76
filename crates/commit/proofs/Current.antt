-- The store of an accepted mount is current, and a commit on a current store never gives 11. Assumes nothing.
use Rattle.std.specs.Prelude.{Ok}
use mathlib.Core.Path.{◌≡◌, refl}
use mathlib.Core.Bool.{true}
use mathlib.Core.List.{List}
use Prim.Native.Nat.{ℕ, ◌-◌, ◌^◌}
use borrow.Author.Tests.{eq-eqb}
use lib.Dec.{eqb}
use Rattle.le.proofs.Choices.{pick_keeps, pick_true}
use Rattle.runs.proofs.Tests.{same_self}
use Rattle.medium.specs.declared.Medium.{Medium}
use Rattle.medium.proofs.Laws.{on_done_keeps}
use Rattle.medium.proofs.Stale.{NotStale, no_stale}
use Rattle.handles.specs.declared.Header.{Header}
use Rattle.handles.specs.declared.Store.{Store}
use Rattle.header.specs.Copies.{current_of, mount_of}
use Rattle.header.proofs.Accepted.{mount_current}
use Rattle.header.proofs.Stale.{current_not_stale}
use Rattle.plan.specs.declared.Edit.{Edit}
use Rattle.plan.specs.Copy.{Out}
use Rattle.plan.proofs.Stale.{copy_not_stale}
use Rattle.commit.specs.Commit.{same_head, is_current, commit_plan, commit_of}

pub same_head_lem : (h : Header) → same_head h h ≡ true
unfolding same_head
same_head_lem h =
    rw (
      eq-eqb h.id h.id refl,
      eq-eqb h.generation h.generation refl,
      eq-eqb h.next_id h.next_id refl,
      eq-eqb h.cursor h.cursor refl,
      eq-eqb h.chunks h.chunks refl,
      eq-eqb h.chunk h.chunk refl,
    )
    (same_self h.crcs)

pub mounted_current : (vol : List ℕ) (m : Medium) → (mount_of vol m).outcome ≡ Ok tt → is_current (current_of vol m) (mount_of vol m).store ≡ true
unfolding is_current
mounted_current vol m d = rw ((mount_current vol m d).1, eq-eqb (current_of vol m).copy (current_of vol m).copy refl) (same_head_lem (current_of vol m).head)

pub commit_not_stale : (edit : Edit) (name vol : List ℕ) (m : Medium) (st : Store) → is_current (current_of vol m) st ≡ true
    → NotStale (commit_of edit name vol m st).ans.outcome
unfolding commit_of
commit_not_stale edit name vol m st c =
    on_done_keeps (λ (o : Out). NotStale o.ans.outcome) (current_of vol m).outcome _ _
    (λ _. rw (pick_true _ _ c)
    (pick_keeps (λ (o : Out). NotStale o.ans.outcome) (eqb st.head.generation (2 ^ 64 - 1)) _ _ refl
    (copy_not_stale (commit_plan (current_of vol m) edit name st) vol m)))
    (λ e q. no_stale (current_not_stale vol m) q)
