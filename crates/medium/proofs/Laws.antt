-- The laws of a sector and of a sector write: all that the layers above use of either. Assumes nothing.
use Rattle.std.specs.Prelude.{Err, Ok, Result}
use mathlib.Core.Path.{◌≡◌, refl, sym, ap, ◌∙◌}
use mathlib.Core.List.{List, [], ◌++◌, append-nil}
use mathlib.Core.Logic.{◌⊎◌, ⊎_elim}
use Prim.Native.Nat.{ℕ, ◌+◌, ◌-◌, ◌*◌, ◌<◌, ◌≤◌}
use native.Mathlib.Nat.{zero-add}
use native.Mathlib.Omega.{arith}
use lib.ListN.{length, take, drop, length-take, length-drop}
use lib.Seq.{drop-length}
use Rattle.le.specs.Part.{part, over}
use Rattle.le.proofs.Parts.{length_part, length_over, part_over, part_before, part_after, over_back}
use Rattle.medium.specs.declared.Error.{Error}
use Rattle.medium.specs.declared.Medium.{Medium}
use Rattle.medium.specs.declared.Written.{Written}
use Rattle.medium.specs.Refusal.{Answer, ok, refused, on_done, on_ok, outcome_of}
use Rattle.medium.specs.Sector.{sectors_of, sector_at, write_at, spend_of, write_of}

pub length_sector : (vol : List ℕ) (k : ℕ) → k < sectors_of vol → length (sector_at vol k) ≡ 512
unfolding sector_at
length_sector vol k h = length_part (512 * k) 512 vol (omega arith)

module _ (vol : List ℕ) (k : ℕ) (bytes : List ℕ) (size : length bytes ≡ 512) (inside : k < sectors_of vol) where
  fits : 512 * k + length bytes ≤ length vol
  fits = rw size (omega arith)

  pub length_write : length (write_at vol k bytes) ≡ length vol
  unfolding write_at
  length_write = length_over (512 * k) bytes vol fits

  -- what was written is there
  pub sector_same : sector_at (write_at vol k bytes) k ≡ bytes
  unfolding sector_at write_at
  sector_same = ap (λ (n : ℕ). part (512 * k) n (over (512 * k) bytes vol)) (sym size) ∙ part_over (512 * k) bytes vol fits

  -- every other sector is as it was
  pub sector_other : (j : ℕ) → (j < k) ⊎ (k < j) → sector_at (write_at vol k bytes) j ≡ sector_at vol j
  unfolding sector_at write_at
  sector_other j =
      ⊎_elim
      (λ (h : j < k). part_before (512 * k) bytes vol fits (512 * j) 512 (omega arith))
      (λ (h : k < j). part_after (512 * k) bytes vol fits (512 * j) 512 (rw size (omega arith)))

-- a sector copied whole into a buffer of its size
pub read_whole : (vol s : List ℕ) (k : ℕ) → k < sectors_of vol → length s ≡ 512 → over 0 (take (512 * k + 512 - 512 * k) (drop (512 * k) vol)) s ≡ sector_at vol k
unfolding over sector_at part
read_whole vol s k h e =
    let n : 512 * k + 512 - 512 * k ≡ 512 = omega arith in
    let l : length (take 512 (drop (512 * k) vol)) ≡ 512 = simp (length-take, length-drop) (omega arith) in
    let z : drop 512 s ≡ [] = rw e at (drop-length s) in
    rw (n, zero-add, l, z) (append-nil (take 512 (drop (512 * k) vol)))

-- a sector lent as `&mut volume[512 * a..512 * a + 512]`, filled and given back
pub in_place : (vol bytes : List ℕ) {a k : ℕ} {s : List ℕ} → a ≡ k → s ≡ bytes → length s ≡ 512 * a + 512 - 512 * a
    → take (512 * a) vol ++ (s ++ drop (512 * a + 512 - 512 * a) (drop (512 * a) vol)) ≡ write_at vol k bytes
unfolding write_at
in_place vol bytes {a} {k} {s} ea es n = rw (← es, ← ea) (over_back (512 * a) (512 * a + 512) s vol n)

-- a writer in place: `spend` first, then the bytes
module _ (vol : List ℕ) (m : Medium) (k : ℕ) (bytes : List ℕ) {w : Written} (asked : w ≡ spend_of m) where
  pub write_refused : {e : Error} → w.outcome ≡ Err e → (vol ≡ (write_of vol m k bytes).vol) × (w ≡ (write_of vol m k bytes).ans)
  unfolding write_of on_done
  write_refused q = (rw (← asked, q) refl, asked)

  pub write_done : {after : List ℕ} → w.outcome ≡ Ok tt → after ≡ write_at vol k bytes → (after ≡ (write_of vol m k bytes).vol) × (w ≡ (write_of vol m k bytes).ans)
  unfolding write_of on_done
  write_done q h = (rw (← asked, q) h, asked)

-- what holds after the refusal and after the rest holds of the whole
pub on_done_keeps : {A : Type 0} (P : A → Type 0) (o : Result Unit Error) (a : A) (f : Error → A) → (o ≡ Ok tt → P a) → ((e : Error) → o ≡ Err e → P (f e)) → P (on_done o a f)
unfolding on_done
on_done_keeps P (Ok tt) a f p q = p refl
on_done_keeps P (Err e) a f p q = q e refl

pub on_ok_keeps : {A B : Type 0} (P : B → Type 0) (a : Answer A) {g : A → B} {f : ℕ → B} → ((y : A) → P (g y)) → ((n : ℕ) → P (f n)) → P (on_ok a g f)
unfolding on_ok
on_ok_keeps P (ok y) p q = p y
on_ok_keeps P (refused n) p q = q n

pub on_done_done : {A : Type 0} {o : Result Unit Error} (a : A) (f : Error → A) → o ≡ Ok tt → on_done o a f ≡ a
unfolding on_done
on_done_done a f q = rw q

pub on_done_no : {A : Type 0} {o : Result Unit Error} {e : Error} (a : A) (f : Error → A) → o ≡ Err e → on_done o a f ≡ f e
unfolding on_done
on_done_no a f q = rw q

-- an outcome is not both
pub not_done : {A : Type 0} {e : Error} → ◌≡◌ {A = Result Unit Error} (Err e) (Ok tt) → A
not_done q = let z : ◌≡◌ {A = ℕ} 0 1 = cc in absurd (let f : ⊥ = omega arith in f)

-- an answer that is ok is that of an outcome that is done
pub done_told : (o : Result Unit Error) → outcome_of o ≡ ok tt → o ≡ Ok tt
done_told (Ok tt) q = refl
done_told (Err e) q = absurd (let z : ◌≡◌ {A = ℕ} 0 1 = cc in omega arith)
