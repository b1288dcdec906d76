-- `delete` and `delete_oldest`, by the way that they go: a law for each return, over plain values. Assumes nothing.
use Rattle.std.specs.Prelude.{Err, Ok, Result, Option}
use mathlib.Core.Path.{◌≡◌, refl, ap}
use mathlib.Core.Bool.{Bool}
use mathlib.Core.List.{List, []}
use Prim.Native.Nat.{ℕ}
use Rattle.names.specs.Names.{name_ok, dir_ok}
use Rattle.medium.specs.declared.Error.{Error}
use Rattle.medium.specs.declared.Medium.{Medium}
use Rattle.medium.specs.Refusal.{on_done}
use Rattle.handles.specs.declared.Store.{Store}
use Rattle.handles.specs.Handles.{open_file}
use Rattle.directory.specs.declared.Found.{Found}
use Rattle.directory.specs.Scan.{find_of, on_found, found_at}
use Rattle.plan.specs.declared.Committed.{Committed}
use Rattle.plan.specs.Copy.{refused_out}
use Rattle.remove.specs.declared.Gone.{Gone}
use Rattle.remove.specs.Remove.{remove_of, none_gone, remove_oldest_of}
use Rattle.store.specs.declared.StoreAnswer.{StoreAnswer}
use Rattle.store.specs.Asked.{asked_of}
use Rattle.store.specs.Reading.{store_answer}
use Rattle.store.specs.Writing.{WriteCall, answer_of, delete_call, OldestCall, gone_answer, oldest_told, oldest_call}

abbrev pub Gives : List ℕ → StoreAnswer → WriteCall → Type 0
Gives vol r d = (vol ≡ d.vol) × (store_answer r ≡ d.call)

module _ (vol : List ℕ) (m : Medium) (st : Store) (name : List ℕ) {o : Result Unit Error} {fine : Bool} (f : fine ≡ name_ok name) (q : o ≡ asked_of vol st fine) where
  pub input_refused : {e : Error} {r : StoreAnswer} → o ≡ Err e → r ≡ answer_of (refused_out st [] m e).ans → Gives vol r (delete_call vol m st name)
  unfolding delete_call on_done
  input_refused h k = rw (k, ← f, ← q, h) (refl, refl)

  module _ (done : o ≡ Ok tt) {x : Result Found Error} (g : x ≡ find_of vol m st name) where
    pub not_found : {e : Error} {r : StoreAnswer} → x ≡ Err e → r ≡ answer_of (refused_out st [] m e).ans → Gives vol r (delete_call vol m st name)
    unfolding delete_call on_done on_found
    not_found h k = rw (k, ← f, ← q, done, ← g, h) (refl, refl)

    pub removed : {slot id : ℕ} {v : List ℕ} {c : Committed} {r : StoreAnswer} → x ≡ found_at slot id
        → (v ≡ (remove_of vol m st slot id).vol) × (c ≡ (remove_of vol m st slot id).ans) → r ≡ answer_of c → Gives v r (delete_call vol m st name)
    unfolding delete_call on_done on_found
    removed h w k = rw (k, ← f, ← q, done, ← g, h) (w.0, ap (λ (z : Committed). store_answer (answer_of z)) w.1)

abbrev pub GivesGone : List ℕ → Gone → OldestCall → Type 0
GivesGone vol r d = (vol ≡ d.vol) × (gone_answer r ≡ d.call) × (r ≡ d.gone)

module _ (vol : List ℕ) (m : Medium) (st : Store) (dir : List ℕ) {o : Result Unit Error} {fine : Bool} (f : fine ≡ dir_ok dir) (q : o ≡ asked_of vol st fine) where
  pub dir_refused : {e : Error} {r : Gone} → o ≡ Err e → r ≡ none_gone (Err e) m st → GivesGone vol r (oldest_call vol m st dir)
  unfolding oldest_call oldest_told on_done
  dir_refused h k = rw (k, ← f, ← q, h) (refl, refl, refl)

  pub oldest_told_lem : {v : List ℕ} {r : Gone} {spared : Option ℕ} → o ≡ Ok tt → spared ≡ open_file st.writer
      → (v ≡ (remove_oldest_of vol m st dir spared).vol) × (r ≡ (remove_oldest_of vol m st dir spared).ans) → GivesGone v r (oldest_call vol m st dir)
  unfolding oldest_call oldest_told on_done
  oldest_told_lem h a w = rw (← f, ← q, h, ← a) (w.0, ap gone_answer w.1, w.1)
