-- The count of records, from the top down: a law for each way out of a turn, and the tail that a count gives. Assumes nothing.
use Rattle.std.specs.Prelude.{Option, Some, None, Result, Ok, Err}
use mathlib.Core.Path.{◌≡◌, refl, sym, ap, ◌∙◌, subst}
use mathlib.Core.Bool.{true, false, false≢true}
use Rattle.std.specs.Option.{is_some}
use mathlib.Core.List.{List}
use Prim.Native.Nat.{ℕ, zero, suc, ◌+◌, ◌-◌, ◌≤◌, ◌<◌, zero-le}
use native.Mathlib.Nat.{le_refl}
use native.Mathlib.Omega.{arith}
use native.Mathlib.Numerals.{add-one}
use borrow.Author.Tests.{eq-eqb, ne_eqb, eqb-false, le-leb, lt-ltb}
use lib.Dec.{eqb}
use Rattle.le.proofs.Choices.{pick_true, pick_false, pick_keeps, pick_keeps_by}
use Rattle.medium.specs.declared.Error.{Error}
use Rattle.medium.specs.declared.Medium.{Medium}
use Rattle.medium.specs.Sector.{sectors_of}
use Rattle.handles.specs.declared.Store.{Store}
use Rattle.handles.specs.Handles.{store_ok}
use Rattle.handles.proofs.Laws.{Held, store_facts}
use Rattle.record.specs.Record.{on_judged, data_at, record_at}
use Rattle.record.proofs.Laws.{on_judged_keeps, data_inside}
use Rattle.append.specs.declared.Tail.{Tail}
use Rattle.append.specs.declared.Tail.TheVariants.{At, Reopened}
use Rattle.append.specs.Appender.{tail_ok, is_closed}
use Rattle.reopen.specs.Reopen.{records_from, tail_for}

-- ---- a record of the chunk

module _ (vol : List ℕ) (st : Store) (ok : store_ok st (sectors_of vol) ≡ true) where
  pub number_needs : (position index : ℕ) → position ≤ 2047 → index < st.head.chunk → (position ≤ 32767) × (st.head.chunk ≤ 512) × (index ≤ 512)
  number_needs position index p i =
      let h : Held st (sectors_of vol) = store_facts st (sectors_of vol) ok in (omega arith, h.head.size_most, omega (arith, h.head.size_most))

  pub record_inside : (chunk index : ℕ) → chunk < st.head.chunks → index < st.head.chunk → data_at st chunk index < sectors_of vol
  record_inside chunk index c i = data_inside st chunk index (sectors_of vol) c i (store_facts st (sectors_of vol) ok).head.room

-- ---- the count

-- what the loop keeps: the count from here is the whole one
pub record Counting (vol : List ℕ) (m : Medium) (st : Store) (id chunk position left : ℕ) : Type 0 where
  pub most : left ≤ st.head.chunk
  pub same : records_from vol m st id chunk position left ≡ records_from vol m st id chunk position st.head.chunk

module _ {vol : List ℕ} {m : Medium} {st : Store} {id chunk position left : ℕ} (at : Counting vol m st id chunk position left) where
  module _ {index : ℕ} {j : Result (Option ℕ) Error} (some : 0 < left) (i : index ≡ left - 1) (read : j ≡ record_at vol m st id chunk position index) where
    turn : on_judged j Err (λ (n : ℕ). Ok (suc index)) (records_from vol m st id chunk position index) ≡ records_from vol m st id chunk position st.head.chunk
    unfolding records_from
    turn = let z : suc index ≡ left = omega arith in rw read (ap (records_from vol m st id chunk position) z ∙ at.same)

    pub count_refused : {e : Error} → j ≡ Err e → Err e ≡ records_from vol m st id chunk position st.head.chunk
    unfolding on_judged
    count_refused q = rw (← turn, q)

    pub count_valid : (o : Option ℕ) → j ≡ Ok o → is_some o ≡ true → Ok (index + 1) ≡ records_from vol m st id chunk position st.head.chunk
    unfolding on_judged
    count_valid (Some n) q h = rw (← turn, q, add-one)
    count_valid None q h = absurd (false≢true h)

    pub count_next : (o : Option ℕ) → j ≡ Ok o → is_some o ≡ false → Counting vol m st id chunk position index
    unfolding on_judged
    count_next None q h = record { most = omega (arith, at.most); same = rw (← turn, q) }
    count_next (Some n) q h = absurd (false≢true (sym h))

  pub count_none : left ≤ 0 → Ok 0 ≡ records_from vol m st id chunk position st.head.chunk
  unfolding records_from
  count_none h = let z : left ≡ 0 = omega arith in rw (← at.same, z)

-- a count is at most the chunk size
abbrev Few : ℕ → Result ℕ Error → Type 0
Few size (Err e) = Unit {0}
Few size (Ok n) = n ≤ size

few : (vol : List ℕ) (m : Medium) (st : Store) (id chunk position n size : ℕ) → n ≤ size → Few size (records_from vol m st id chunk position n)
unfolding records_from
few vol m st id chunk position zero size h = h
few vol m st id chunk position (suc n) size h =
    on_judged_keeps (Few size) (record_at vol m st id chunk position n) _ _ _ (λ e. tt) (λ k q. h) (λ q. few vol m st id chunk position n size (omega arith))

pub count_most : (vol : List ℕ) (m : Medium) (st : Store) (id chunk position : ℕ) {n : ℕ} → records_from vol m st id chunk position st.head.chunk ≡ Ok n → n ≤ st.head.chunk
count_most vol m st id chunk position e = subst (Few st.head.chunk) e (few vol m st id chunk position st.head.chunk st.head.chunk (le_refl st.head.chunk))

-- ---- the tail

module _ (size n : ℕ) where
  -- it is one that refusal 3 takes, and it is open
  pub tail_passes : n ≤ size → tail_ok (tail_for size n) size ≡ true
  unfolding tail_for tail_ok
  tail_passes h =
      pick_keeps_by (λ (t : Tail). tail_ok t size ≡ true) (eqb n 0) _ _ (λ _. le-leb 0 size zero-le)
      (λ t. pick_keeps_by (λ (t : Tail). tail_ok t size ≡ true) (eqb n size) _ _ (λ _. le-leb size size (le_refl size))
      (λ u.
      let a : n ≡ 0 → ⊥ = eqb-false _ _ t in
      let b : n ≡ size → ⊥ = eqb-false _ _ u in
      rw (le-leb 1 n (omega arith), lt-ltb n size (omega arith))))

  pub tail_open : is_closed (tail_for size n) ≡ false
  unfolding tail_for is_closed
  tail_open = pick_keeps (λ (t : Tail). is_closed t ≡ false) (eqb n 0) _ _ refl (pick_keeps (λ (t : Tail). is_closed t ≡ false) (eqb n size) _ _ refl refl)
