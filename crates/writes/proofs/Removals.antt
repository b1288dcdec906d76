-- A removal makes the writes of its commit, and leaves beside the store's copy the one that was current. Assumes nothing.
use Rattle.std.specs.Prelude.{Ok, Option, None, Some, Result, Err}
use Prim.Native.Nat.{ℕ}
use mathlib.Core.Path.{◌≡◌}
use mathlib.Core.Bool.{Bool, true, false≢true}
use mathlib.Core.List.{List, []}
use native.Mathlib.Omega.{arith}
use lib.Dec.{lit≤}
use Rattle.medium.specs.declared.Error.{Error}
use Rattle.directory.specs.declared.Old.{Old}
use Rattle.le.proofs.Choices.{pick_keeps}
use Rattle.medium.specs.declared.Medium.{Medium}
use Rattle.medium.proofs.Laws.{on_done_keeps}
use Rattle.handles.specs.declared.Store.{Store}
use Rattle.directory.specs.Scan.{oldest_of}
use Rattle.plan.specs.declared.Edit.TheVariants.{Remove}
use Rattle.plan.specs.Copy.{Out}
use Rattle.commit.specs.Commit.{commit_of}
use Rattle.remove.specs.Remove.{remove_of, GoneOut, gone_of, oldest_gone, remove_oldest_of}
use Rattle.remove.proofs.Keeps.{Good}
use Rattle.safe.proofs.Frame.{clash}
use Rattle.writes.specs.Writes.{Most}
use Rattle.writes.proofs.Beside.{remove_plain, Beside, commit_beside}

module _ (vol : List ℕ) (m : Medium) (st : Store) where
  -- where each of its commits makes at most n
  module _ (n : ℕ) (each : (slot : ℕ) → Most n m (commit_of (Remove slot) [] vol m st).ans.medium) where
    pub remove_most : (slot id : ℕ) → Most n m (remove_of vol m st slot id).ans.medium
    unfolding remove_of
    remove_most slot id =
        on_done_keeps (λ (o : Out). Most n m o.ans.medium) (commit_of (Remove slot) [] vol m st).ans.outcome _ _ (λ _. each slot) (λ e _. each slot)

    gone_most : (name : List ℕ) (len : ℕ) (o : Out) → Most n m o.ans.medium → Most n m (gone_of name len o).ans.medium
    unfolding gone_of
    gone_most name len o h = on_done_keeps (λ (g : GoneOut). Most n m g.ans.medium) o.ans.outcome _ _ (λ _. h) (λ e _. h)

    found_most : (f : Result (Option Old) Error) → Most n m (oldest_gone vol m st f).ans.medium
    unfolding oldest_gone
    found_most (Err e) = omega arith
    found_most (Ok None) = omega arith
    found_most (Ok (Some old)) = gone_most _ old.len _ (remove_most old.slot old.id)

    pub oldest_most : (dir : List ℕ) (spared : Option ℕ) → Most n m (remove_oldest_of vol m st dir spared).ans.medium
    unfolding remove_oldest_of
    oldest_most dir spared = found_most (oldest_of vol m st dir spared)

  -- where a file went
  module _ (good : Good vol st) where
    abbrev After : Out → Type 0
    After o = o.ans.outcome ≡ Ok tt → Beside 1 o.vol o.ans.store

    remove_beside : (slot id : ℕ) → After (remove_of vol m st slot id)
    unfolding remove_of
    remove_beside slot id =
        on_done_keeps After (commit_of (Remove slot) [] vol m st).ans.outcome _ _
        (λ d _.
        let x = commit_beside (Remove slot) [] vol m st (remove_plain slot) good (lit≤ tt) d in
        record { head = x.head; found = x.found; same = x.same; may = x.may; few = x.few; listed = x.listed })
        (λ e q d. clash q d)

    abbrev Went : GoneOut → Type 0
    Went g = g.ans.any ≡ true → Beside 1 g.vol g.ans.store

    gone_beside : (name : List ℕ) (len : ℕ) (o : Out) → After o → Went (gone_of name len o)
    unfolding gone_of
    gone_beside name len o h = on_done_keeps Went o.ans.outcome _ _ (λ d _. h d) (λ e _ y. absurd (false≢true y))

    found_beside : (f : Result (Option Old) Error) → Went (oldest_gone vol m st f)
    unfolding oldest_gone
    found_beside (Err e) = λ y. absurd (false≢true y)
    found_beside (Ok None) = λ y. absurd (false≢true y)
    found_beside (Ok (Some old)) = gone_beside _ old.len _ (remove_beside old.slot old.id)

    pub oldest_beside : (dir : List ℕ) (spared : Option ℕ) → Went (remove_oldest_of vol m st dir spared)
    unfolding remove_oldest_of
    oldest_beside dir spared = found_beside (oldest_of vol m st dir spared)
