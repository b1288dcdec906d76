-- How large the answers are: 256 plus any of them fits 32 bits. Assumes nothing.
use Rattle.std.specs.Prelude.{Ok}
use mathlib.Core.Path.{◌≡◌, sym, ap, ◌∙◌}
use mathlib.Core.List.{List}
use Prim.Native.Nat.{ℕ, ◌≤◌}
use lib.ListN.{length}
use Rattle.medium.specs.declared.Medium.{Medium}
use Rattle.medium.specs.Refusal.{outcome_of}
use Rattle.medium.specs.Sector.{sectors_of}
use Rattle.medium.proofs.Laws.{done_told}
use Rattle.handles.specs.declared.Store.{Store}
use Rattle.handles.proofs.Laws.{store_facts}
use Rattle.header.specs.Copies.{mount_of}
use Rattle.store.proofs.Mounts.{mounted_ok}
use Rattle.format.specs.Format.{format_of}
use Rattle.format.proofs.Accepted.{format_ok}
use Rattle.store.specs.declared.StoreAnswer.{StoreAnswer}
use Rattle.store.specs.declared.ListAnswer.{ListAnswer}
use Rattle.store.specs.Reading.{StoreCall, store_answer, mount_call, ListCall, list_answer, list_call}
use Rattle.store.specs.Writing.{format_call}
use Rattle.store.proofs.Lists.{list_few}

-- an accepted mount or format has 1 to 2,048 chunks
module _ (vol : List ℕ) (m : Medium) {r : StoreAnswer} where
  pub mount_few : store_answer r ≡ mount_call vol m → r.outcome ≡ Ok tt → r.store.head.chunks ≤ 2048
  unfolding mount_call
  mount_few e d =
      let o : (mount_of vol m).outcome ≡ (Ok tt) = done_told _ (sym (ap (λ (c : StoreCall). c.answer) e) ∙ ap outcome_of d) in
      rw (ap (λ (c : StoreCall). c.store) e) (store_facts (mount_call vol m).store (sectors_of vol) (mounted_ok vol m o)).head.chunks_most

  pub format_few : (size seed : ℕ) → store_answer r ≡ (format_call vol m size seed).call → r.outcome ≡ Ok tt → r.store.head.chunks ≤ 2048
  unfolding format_call
  format_few size seed e d =
      let o : (format_of size seed vol m).ans.outcome ≡ (Ok tt) = done_told _ (sym (ap (λ (c : StoreCall). c.answer) e) ∙ ap outcome_of d) in
      rw (ap (λ (c : StoreCall). c.store) e) (store_facts (format_of size seed vol m).ans.store (sectors_of vol) (format_ok size seed vol m o)).head.chunks_most

-- a list makes at most 64 rows, refused or not
pub made_few : (vol : List ℕ) (m : Medium) (st : Store) (dir counts rows : List ℕ) → 3072 ≤ length rows → (l : ListAnswer) {cs rs : List ℕ} → list_answer l cs rs ≡ list_call vol m st dir counts rows → l.count ≤ 64
made_few vol m st dir counts rows room l e = rw (ap (λ (c : ListCall). c.made) e) (list_few vol m st dir counts rows room)
