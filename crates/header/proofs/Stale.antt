-- Reading both headers, choosing a copy and mounting never give 11. Assumes nothing.
use mathlib.Core.Path.{refl}
use mathlib.Core.List.{List}
use Prim.Native.Nat.{ℕ}
use Rattle.le.proofs.Choices.{pick_keeps}
use Rattle.medium.specs.declared.Medium.{Medium}
use Rattle.medium.specs.Sector.{read_of}
use Rattle.medium.proofs.Laws.{on_done_keeps}
use Rattle.medium.proofs.Stale.{NotStale, no_stale, read_not_stale}
use Rattle.header.specs.declared.answers.Mounted.{Mounted}
use Rattle.header.specs.declared.answers.Copies.{Copies}
use Rattle.header.specs.declared.answers.Current.{Current}
use Rattle.header.specs.Copies.{headers_of, taken_of, no_current, choice_of, current_of, mount_of}

module _ (vol : List ℕ) (m : Medium) where
  abbrev Read : Copies → Type 0
  Read c = NotStale c.outcome

  pub headers_not_stale : NotStale (headers_of vol m).outcome
  unfolding headers_of
  headers_not_stale =
      pick_keeps Read _ _ _ refl
      (on_done_keeps Read (read_of m 0) _ _
      (λ _. pick_keeps Read _ _ _ refl
      (on_done_keeps Read (read_of m 32) _ _ (λ _. pick_keeps Read _ _ _ refl tt) (λ e q. no_stale (read_not_stale m 32) q)))
      (λ e q. no_stale (read_not_stale m 0) q))

  abbrev Chosen : Current → Type 0
  Chosen c = NotStale c.outcome

  pub current_not_stale : NotStale (current_of vol m).outcome
  unfolding current_of choice_of taken_of no_current
  current_not_stale =
      on_done_keeps Chosen (headers_of vol m).outcome _ _
      (λ _. pick_keeps Chosen _ _ _ tt (pick_keeps Chosen _ _ _ tt (pick_keeps Chosen _ _ _ refl refl)))
      (λ e q. no_stale headers_not_stale q)

  pub mount_not_stale : NotStale (mount_of vol m).outcome
  unfolding mount_of
  mount_not_stale = on_done_keeps (λ (r : Mounted). NotStale r.outcome) (current_of vol m).outcome _ _ (λ _. tt) (λ e q. no_stale current_not_stale q)
