-- Which calls never give 11: mount, format, list, and delete on the store of an accepted mount. Assumes nothing.
use Rattle.std.specs.Prelude.{Err, Ok}
use mathlib.Core.Path.{◌≡◌, refl}
use mathlib.Core.Bool.{Bool, ◌||◌, true}
use mathlib.Core.List.{List}
use Prim.Native.Nat.{ℕ}
use lib.Dec.{ltb}
use lib.ListN.{length}
use Rattle.le.specs.Part.{over, zeros}
use Rattle.le.proofs.Choices.{pick_keeps}
use Rattle.names.specs.Names.{name_ok, dir_ok}
use Rattle.medium.specs.declared.Medium.{Medium}
use Rattle.medium.specs.declared.Error.TheVariants.{Range}
use Rattle.medium.specs.Refusal.{refused, outcome_of}
use Rattle.medium.proofs.Laws.{on_done_keeps}
use Rattle.medium.proofs.Stale.{NotStale, no_stale, told_not_stale}
use Rattle.handles.specs.declared.Store.{Store}
use Rattle.header.specs.Copies.{mount_of, current_of}
use Rattle.header.proofs.Stale.{mount_not_stale}
use Rattle.directory.specs.Rows.{rows_of}
use Rattle.directory.specs.Scan.{find_of}
use Rattle.directory.proofs.Decides.{on_found_keeps}
use Rattle.directory.proofs.Stale.{find_not_stale, rows_not_stale}
use Rattle.table.specs.Table.{Counted, count_of}
use Rattle.table.proofs.Stale.{count_not_stale}
use Rattle.plan.specs.Copy.{Out}
use Rattle.commit.proofs.Current.{mounted_current}
use Rattle.commit.specs.Commit.{is_current}
use Rattle.format.specs.Format.{format_of}
use Rattle.format.proofs.Stale.{format_not_stale}
use Rattle.remove.specs.Remove.{remove_of}
use Rattle.remove.proofs.Keeps.{remove_not_stale}
use Rattle.store.specs.Asked.{asked_of}
use Rattle.store.specs.Reading.{mount_call, ListCall, list_from, list_call}
use Rattle.store.specs.Writing.{format_call, delete_call}
use Rattle.store.proofs.Mounts.{call_store}

-- nor do the tests of the input
asked_not_stale : (vol : List ℕ) (st : Store) (fine : Bool) → NotStale (asked_of vol st fine)
unfolding asked_of
asked_not_stale vol st fine = pick_keeps NotStale _ _ _ (pick_keeps NotStale _ _ _ tt refl) refl

module _ (vol : List ℕ) (m : Medium) where
  pub mount_never : (mount_call vol m).answer ≡ refused 11 → ⊥
  unfolding mount_call
  mount_never = told_not_stale (mount_of vol m).outcome (mount_not_stale vol m)

  pub format_never : (size seed : ℕ) → (format_call vol m size seed).call.answer ≡ refused 11 → ⊥
  unfolding format_call
  format_never size seed = told_not_stale (format_of size seed vol m).ans.outcome (format_not_stale size seed vol m)

  abbrev Listed : ListCall → Type 0
  Listed c = c.answer ≡ refused 11 → ⊥

  pub list_never : (st : Store) (dir counts rows : List ℕ) → (list_call vol m st dir counts rows).answer ≡ refused 11 → ⊥
  unfolding list_call list_from
  list_never st dir counts rows =
      let c : Counted = count_of vol m st (over 0 (zeros 64) counts) in
      pick_keeps Listed (ltb (length rows) 3072 || ltb (length counts) 64) _ _ (told_not_stale (Err Range) refl)
      (on_done_keeps Listed (asked_of vol st (dir_ok dir)) _ _
      (λ _. on_done_keeps Listed c.outcome _ _
      (λ _. told_not_stale (rows_of vol m st dir c.counts rows).outcome (rows_not_stale vol m st dir c.counts rows))
      (λ e q. told_not_stale (Err e) (no_stale (count_not_stale vol m st (over 0 (zeros 64) counts)) q)))
      (λ e q. told_not_stale (Err e) (no_stale (asked_not_stale vol st (dir_ok dir)) q)))

  abbrev Right : Out → Type 0
  Right o = outcome_of o.ans.outcome ≡ refused 11 → ⊥

  -- S-3: the map is no part of what makes a store value current
  current_called : (mount_of vol m).outcome ≡ Ok tt → is_current (current_of vol m) (mount_call vol m).store ≡ true
  unfolding is_current
  current_called d = rw (call_store vol m d) (mounted_current vol m d)

  pub delete_never : (mount_of vol m).outcome ≡ Ok tt → (name : List ℕ) → (delete_call vol m (mount_call vol m).store name).call.answer ≡ refused 11 → ⊥
  unfolding delete_call
  delete_never d name =
      let st : Store = (mount_call vol m).store in
      on_done_keeps Right (asked_of vol st (name_ok name)) _ _
      (λ _. on_found_keeps Right (find_of vol m st name) _ _ (λ e q. told_not_stale (Err e) (find_not_stale vol m st name q))
      (λ slot id w. told_not_stale (remove_of vol m st slot id).ans.outcome (remove_not_stale vol m st slot id (current_called d))))
      (λ e q. told_not_stale (Err e) (no_stale (asked_not_stale vol st (name_ok name)) q))
