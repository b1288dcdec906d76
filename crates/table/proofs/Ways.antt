-- The ways to an answer by the map: with an unfit one the walk's, else the first refusal of the table's sectors, else the map's own. Assumes nothing.
use Rattle.std.specs.Prelude.{Err, Ok, Result}
use mathlib.Core.Path.{◌≡◌, refl, sym, ap, ◌∙◌}
use mathlib.Core.Bool.{true, false}
use mathlib.Core.List.{List}
use Prim.Native.Nat.{ℕ}
use Rattle.le.specs.Choice.{pick}
use Rattle.le.proofs.Choices.{pick_true, pick_false, pick_keeps_by}
use Rattle.medium.specs.declared.Error.{Error}
use Rattle.medium.specs.declared.Medium.{Medium}
use Rattle.medium.specs.Refusal.{on_done}
use Rattle.medium.proofs.Laws.{on_done_done, on_done_no, on_done_keeps}
use Rattle.handles.specs.declared.Store.{Store}
use Rattle.table.specs.Free.{checked_of}

module _ {A : Type 0} (vol : List ℕ) (m : Medium) (st : Store) (mapped : A) (refuse : Error → A) (walked : A) where
  abbrev answer : A
  answer = pick st.free.fit (on_done (checked_of vol m st) mapped refuse) walked

  pub by_walk : {r : A} → st.free.fit ≡ false → r ≡ walked → r ≡ answer
  by_walk u e = e ∙ sym (pick_false _ _ u)

  -- where the map's own answer is the walk's, and so is each refusal, every answer is
  pub as_walked : (st.free.fit ≡ true → checked_of vol m st ≡ Ok tt → mapped ≡ walked)
      → (st.free.fit ≡ true → (e : Error) → checked_of vol m st ≡ Err e → refuse e ≡ walked) → answer ≡ walked
  as_walked p q =
      pick_keeps_by (λ (r : A). r ≡ walked) st.free.fit _ _ (λ f. on_done_keeps (λ (r : A). r ≡ walked) (checked_of vol m st) _ _ (p f) (q f)) (λ _. refl)

  module _ (f : st.free.fit ≡ true) {o : Result Unit Error} (asked : o ≡ checked_of vol m st) where
    pub by_checked : {r : A} → r ≡ on_done o mapped refuse → r ≡ answer
    by_checked e = e ∙ ap (λ (x : Result Unit Error). on_done x mapped refuse) asked ∙ sym (pick_true _ _ f)

    pub by_refusal : {e : Error} → o ≡ Err e → refuse e ≡ answer
    by_refusal q = sym (pick_true _ _ f ∙ on_done_no _ _ (sym asked ∙ q))

    pub by_map : {r : A} → o ≡ Ok tt → r ≡ mapped → r ≡ answer
    by_map q e = e ∙ sym (pick_true _ _ f ∙ on_done_done _ _ (sym asked ∙ q))
