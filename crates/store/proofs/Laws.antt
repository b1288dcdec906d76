-- What the tests of the input tell, and the counts set to 0. Assumes nothing.
use Rattle.std.specs.Prelude.{Err, Ok, Result}
use Rattle.medium.specs.declared.Error.{Error}
use mathlib.Core.Path.{◌≡◌, refl, sym, ap, ◌∙◌}
use mathlib.Core.Bool.{Bool, true, false}
use mathlib.Core.List.{List}
use Prim.Native.Nat.{ℕ, ◌+◌, ◌≤◌, ◌<◌}
use native.Mathlib.Omega.{arith}
use lib.ListN.{length, get_or, set, drop, replicate, get_or-replicate, get_or-append}
use lib.Seq.{paste}
use native.Mathlib.Nat.{zero-add}
use Rattle.le.specs.Part.{over, zeros}
use Rattle.runs.proofs.Runs.{zero_more, zero_all}
use Rattle.le.specs.Choice.{pick}
use Rattle.medium.specs.declared.Error.TheVariants.{Name, Handle}
use Rattle.medium.specs.Sector.{sectors_of}
use Rattle.medium.proofs.Laws.{not_done}
use Rattle.handles.specs.declared.Store.{Store}
use Rattle.handles.specs.Handles.{store_ok}
use Rattle.handles.proofs.Laws.{Held, store_facts}
use Rattle.store.specs.Asked.{asked_of}

-- a call whose input was accepted has a store value that passes, and a name that does
pub record Accepted (vol : List ℕ) (st : Store) (fine : Bool) : Type 0 where
  pub ok : store_ok st (sectors_of vol) ≡ true
  pub held : Held st (sectors_of vol)
  pub named : fine ≡ true

pub asked_done : (vol : List ℕ) (st : Store) (fine : Bool) {o : Result Unit Error} → o ≡ asked_of vol st fine → o ≡ Ok tt → Accepted vol st fine
unfolding asked_of pick
asked_done vol st fine e d = go (store_ok st (sectors_of vol)) refl fine refl (sym e ∙ d)
  where
    go : (a : Bool) → store_ok st (sectors_of vol) ≡ a → (b : Bool) → fine ≡ b → ◌≡◌ {A = Result Unit Error} (pick a (pick b (Ok tt) (Err Name)) (Err Handle)) (Ok tt) → Accepted vol st fine
    go true p true q r = record { ok = p; held = store_facts st (sectors_of vol) p; named = q }
    go true p false q r = not_done r
    go false p b q r = not_done r

-- ---- the first 64 counts set to 0

pub cleared_turn : (l : List ℕ) (i : ℕ) → 64 ≤ length l → i < 64 → set (paste l 0 (zeros 64) i) i 0 ≡ paste l 0 (zeros 64) (i + 1)
cleared_turn l i h k = ap (λ (j : ℕ). set (paste l 0 (zeros 64) i) j 0) (sym (zero-add i)) ∙ zero_more l 0 64 i (omega arith) k

pub cleared_all : (l : List ℕ) {i : ℕ} {c : List ℕ} → 64 ≤ i → i ≤ 64 → c ≡ paste l 0 (zeros 64) i → c ≡ over 0 (zeros 64) l
cleared_all l {i} h k e = let q : i ≡ 64 = omega arith in (rw q at e) ∙ zero_all l 0 64

pub cleared_zero : (l : List ℕ) {c : List ℕ} → c ≡ over 0 (zeros 64) l → (k : ℕ) → k < 64 → get_or c k 0 ≡ 0
unfolding over zeros
cleared_zero l e k h =
    let z : List ℕ = replicate 64 0 in
    ap (λ (x : List ℕ). get_or x k 0) e ∙ get_or-append z (drop (0 + length z) l) 0 k h ∙ get_or-replicate 64 k 0 0 h
