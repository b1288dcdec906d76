-- The other calls write nothing: they hand the medium record back as it was, open_append all but the token. Assumes nothing.
use Rattle.std.specs.Prelude.{Err, Ok, Result}
use Rattle.medium.specs.declared.Error.{Error}
use Prim.Native.Nat.{ℕ}
use mathlib.Core.Path.{◌≡◌, refl, ap}
use mathlib.Core.Bool.{Bool, true}
use mathlib.Core.List.{List}
use Rattle.le.proofs.Choices.{pick_keeps}
use Rattle.medium.specs.declared.Medium.{Medium}
use Rattle.medium.specs.Sector.{sectors_of}
use Rattle.medium.proofs.Laws.{on_done_keeps}
use Rattle.handles.specs.declared.Store.{Store}
use Rattle.handles.specs.Handles.{store_ok}
use Rattle.table.proofs.Decides.{on_chain_keeps}
use Rattle.directory.proofs.Decides.{on_found_keeps}
use Rattle.record.proofs.Laws.{on_result_keeps}
use Rattle.reader.specs.declared.Reader.{Reader}
use Rattle.reader.specs.Calls.{NextCall, next_call, SeekCall, seek_call}
use Rattle.append.specs.declared.Handed.{Handed}
use Rattle.append.specs.Flush.{AppOut}
use Rattle.files.specs.declared.Rollover.{Rollover}
use Rattle.reopen.specs.Reopen.{reopen_of}
use Rattle.reopen.proofs.Opens.{reopen_reads, reopen_opens}
use Rattle.store.specs.declared.ReaderAnswer.{ReaderAnswer}
use Rattle.store.specs.Reading.{mount_call, free_count_call, find_call, ListCall, list_from, list_call, reader_call}
use Rattle.store.specs.Opening.{rollover_of, admitted_of, open_call}
use Rattle.store.proofs.Admits.{open_is}
use Rattle.store.proofs.Opens.{input_fits}

module _ (vol : List ℕ) (m : Medium) where
  pub mount_medium : (mount_call vol m).medium ≡ m
  unfolding mount_call
  mount_medium = refl

module _ (vol : List ℕ) (m : Medium) (st : Store) where
  pub list_medium : (dir counts rows : List ℕ) → (list_call vol m st dir counts rows).medium ≡ m
  unfolding list_call list_from
  list_medium dir counts rows =
      pick_keeps (λ (c : ListCall). c.medium ≡ m) _ _ _ refl
      (on_done_keeps (λ (c : ListCall). c.medium ≡ m) _ _ _ (λ _. on_done_keeps (λ (c : ListCall). c.medium ≡ m) _ _ _ (λ _. refl) (λ _ _. refl)) (λ _ _. refl))

  -- S-3's call
  pub free_count_medium : (free_count_call vol m st).medium ≡ m
  unfolding free_count_call
  free_count_medium = refl

  pub find_medium : (name : List ℕ) → (find_call vol m st name).medium ≡ m
  unfolding find_call
  find_medium name = refl

  abbrev Same : ReaderAnswer → Type 0
  Same r = r.medium ≡ m

  pub reader_medium : (name : List ℕ) → (reader_call vol m st name).medium ≡ m
  unfolding reader_call
  reader_medium name =
      on_done_keeps Same _ _ _
      (λ _. on_found_keeps Same _ _ _ (λ e _. refl) (λ slot id _. on_chain_keeps Same _ _ _ (λ e. refl) (λ p _. refl)))
      (λ _ _. refl)

  pub next_medium : (rd : Reader) (out : List ℕ) → (next_call vol m st rd out).medium ≡ m
  unfolding next_call
  next_medium rd out =
      pick_keeps (λ (c : NextCall). c.medium ≡ m) _ _ _ refl (on_done_keeps (λ (c : NextCall). c.medium ≡ m) _ _ _ (λ _. refl) (λ _ _. refl))

  pub seek_medium : (rd : Reader) (number : ℕ) → (seek_call vol m st rd number).medium ≡ m
  unfolding seek_call
  seek_medium rd number =
      on_done_keeps (λ (c : SeekCall). c.medium ≡ m) _ _ _ (λ _. on_result_keeps (λ (c : SeekCall). c.medium ≡ m) _ _ _ (λ _ _. refl) (λ _ _. refl)) (λ _ _. refl)

  -- ---- open_append

  reopened : (name : List ℕ) (roll : Rollover) → store_ok st (sectors_of vol) ≡ true → (reopen_of name roll vol m st).ans.medium.left ≡ m.left
  reopened name roll ok = go (reopen_of name roll vol m st).ans.outcome refl
    where
      go : (o : Result Unit Error) → (reopen_of name roll vol m st).ans.outcome ≡ o → (reopen_of name roll vol m st).ans.medium.left ≡ m.left
      go (Ok tt) q = ap (λ (u : Medium). u.left) (reopen_opens name roll vol m st ok q).medium
      go (Err e) q = ap (λ (r : Handed). r.medium.left) ((reopen_reads name roll vol m st ok).refused e q)

  pub open_left : (name : List ℕ) (rolls : Bool) (dir : List ℕ) → (open_call vol m st name rolls dir).call.medium.left ≡ m.left
  open_left name rolls dir =
      rw (open_is vol st name rolls dir m)
      (on_done_keeps (λ (o : AppOut). o.ans.medium.left ≡ m.left) (admitted_of vol st name rolls dir) _ _
      (λ q. reopened name (rollover_of rolls dir) (input_fits vol st name rolls dir refl q).ok)
      (λ _ _. refl))
