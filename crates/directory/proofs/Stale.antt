-- A slot, find and the rows of a list never give 11. Assumes nothing.
use Rattle.std.specs.Prelude.{Option, None, Some, Result, Ok, Err}
use mathlib.Core.Path.{◌≡◌, refl, subst}
use mathlib.Core.List.{List}
use Prim.Native.Nat.{ℕ, ◌/◌, ◌%◌}
use lib.Dec.{eqb}
use Rattle.le.proofs.Choices.{pick_keeps}
use Rattle.medium.specs.declared.Error.{Error}
use Rattle.medium.specs.declared.Medium.{Medium}
use Rattle.medium.proofs.Laws.{on_done_keeps}
use Rattle.medium.proofs.Stale.{NotStale, no_stale}
use Rattle.handles.specs.declared.Store.{Store}
use Rattle.handles.specs.Body.{due_of}
use Rattle.handles.proofs.Laws.{due_not_stale}
use Rattle.directory.specs.declared.File.{File}
use Rattle.directory.specs.declared.Found.{Found}
use Rattle.directory.specs.Entry.{entry_of, slot_at}
use Rattle.directory.specs.Rows.{listing, rows_of}
use Rattle.directory.specs.Scan.{finding, find_of}
use Rattle.directory.proofs.Scans.{Left, scan_keeps}

module _ (vol : List ℕ) (m : Medium) (st : Store) where
  abbrev Seen : Result (Option File) Error → Type 0
  Seen (Err e) = NotStale (Err e)
  Seen (Ok None) = Unit
  Seen (Ok (Some f)) = Unit

  seen : (i : ℕ) → Seen (slot_at vol m st i)
  unfolding slot_at entry_of
  seen i =
      on_done_keeps Seen (due_of vol m st (eqb (i % 8) 0) (i / 8)) _ _ (λ _. pick_keeps Seen _ _ _ tt (pick_keeps Seen _ _ _ tt refl))
      (λ e q. no_stale (due_not_stale vol m st (eqb (i % 8) 0) (i / 8)) q)

  slot_refused : (i : ℕ) {e : Error} → slot_at vol m st i ≡ Err e → NotStale (Err e)
  slot_refused i q = subst Seen q (seen i)

  abbrev Sought : Result Found Error → Type 0
  Sought (Err e) = NotStale (Err e)
  Sought (Ok x) = Unit

  pub find_not_stale : (name : List ℕ) {e : Error} → find_of vol m st name ≡ Err e → NotStale (Err e)
  unfolding find_of
  find_not_stale name q =
      subst Sought q
      (scan_keeps (finding name) vol m st (λ i t. Unit) Sought (λ i t e h p q. slot_refused i q) (λ i t h p q. tt)
      (λ i t id len h p q. pick_keeps (Left (λ _. Unit) Sought) _ _ _ tt tt) (λ t p. refl) tt tt)

  pub rows_not_stale : (dir counts rows : List ℕ) → NotStale (rows_of vol m st dir counts rows).outcome
  unfolding rows_of
  rows_not_stale dir counts rows =
      scan_keeps (listing dir counts) vol m st (λ i t. Unit) (λ r. NotStale r.outcome) (λ i t e h p q. slot_refused i q) (λ i t h p q. tt)
      (λ i t id len h p q. tt) (λ t p. tt) _ tt
