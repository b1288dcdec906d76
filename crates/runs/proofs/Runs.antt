-- What the library says of runs of bytes, in the words of Run; and a turn of the loop over them. Assumes nothing.
use mathlib.Core.Path.{◌≡◌, refl, sym, ap, ◌∙◌}
use mathlib.Core.Bool.{Bool, true, false, ◌&&◌, and-false}
use mathlib.Core.List.{List, [], ◌∷◌, ◌++◌}
use Prim.Native.Nat.{ℕ, suc, ◌+◌, ◌-◌, ◌≤◌, ◌<◌}
use native.Mathlib.Numerals.{add-one}
use native.Mathlib.Omega.{arith}
use borrow.Author.Tests.{eq-eqb, ne_eqb}
use lib.Dec.{eqb}
use Rattle.std.specs.List.{list_all, zip}
use Rattle.std.proofs.lemmas.Grind.{get_or_default_zero}
use Rattle.std.proofs.lemmas.List.{same_lists}
use lib.ListN.{length, get_or, drop, take, set}
use lib.Seq.{paste, paste-suc, take-length}
use Rattle.le.specs.Part.{over, zeros}
use Rattle.le.proofs.Parts.{over_back, length_zeros, get_or_zeros}
use Rattle.le.proofs.Turns.{drop_one, drop_end}
use Rattle.runs.specs.Run.{starts_with, same_bytes, all_same}

-- one more element is copied
pub copy_more : (d s : List ℕ) (at i : ℕ) → at + length s ≤ length d → i < length s → set (paste d at s i) (at + i) (get_or s i 0) ≡ paste d at s (i + 1)
copy_more d s at i h k = rw add-one (paste-suc d at s i 0 (omega arith) k)

pub copy_all : (d s : List ℕ) (at : ℕ) → paste d at s (length s) ≡ over at s d
unfolding over
copy_all d s at = rw take-length

-- the same of n zeros
pub zero_more : (d : List ℕ) (at n i : ℕ) → at + n ≤ length d → i < n → set (paste d at (zeros n) i) (at + i) 0 ≡ paste d at (zeros n) (i + 1)
zero_more d at n i h k =
    let e : length {A = ℕ} (zeros n) ≡ n = length_zeros n in
    ap (λ (x : ℕ). set (paste d at (zeros n) i) (at + i) x) (sym (get_or_zeros n i))
    ∙ copy_more d (zeros n) at i (rw e h) (rw e k)

pub zero_all : (d : List ℕ) (at n : ℕ) → paste d at (zeros n) n ≡ over at (zeros n) d
zero_all d at n = ap (λ (k : ℕ). paste d at (zeros n) k) (sym (length_zeros n)) ∙ copy_all d (zeros n) at

-- zeros in place of each of the n bytes from `at` on
pub zeros_back : (at n : ℕ) (vs d : List ℕ) → length vs ≡ n → ((k : ℕ) → k < n → get_or vs k 0 ≡ 0) → take at d ++ (vs ++ drop (at + n - at) (drop at d)) ≡ over at (zeros n) d
zeros_back at n vs d e each =
    over_back at (at + n) vs d (omega arith)
    ∙ ap (λ (l : List ℕ). over at l d) (same_lists vs (zeros n) (e ∙ sym (length_zeros n)) (λ k x h.
    get_or_default_zero vs k x h
    ∙ each k (omega arith)
    ∙ sym (get_or_default_zero (zeros n) k x (omega (arith, length_zeros n)) ∙ get_or_zeros n k)))

-- the pairs of two lists of the same length are equal each
pub same_pairs : (a b : List ℕ) → length a ≡ length b → list_all (λ (p : ℕ × ℕ). eqb p.0 p.1) (zip a b) ≡ same_bytes a b
unfolding same_bytes
same_pairs [] [] h = refl
same_pairs [] (y ∷ ys) h = absurd (omega arith)
same_pairs (x ∷ xs) [] h = absurd (omega arith)
same_pairs (x ∷ xs) (y ∷ ys) h = ap (λ (t : Bool). eqb x y && t) (same_pairs xs ys (omega arith))

pub same_long : (a b : List ℕ) → (length a ≡ length b → ⊥) → same_bytes a b ≡ false
unfolding same_bytes
same_long [] [] h = absurd (h refl)
same_long [] (y ∷ ys) h = refl
same_long (x ∷ xs) [] h = refl
same_long (x ∷ xs) (y ∷ ys) h = rw (same_long xs ys (λ e. h (ap suc e))) (and-false (eqb x y))

-- a list begins with what its front is the same as
pub same_front : (w l : List ℕ) → same_bytes (take (length w) l) w ≡ starts_with w l
unfolding same_bytes starts_with
same_front [] l = refl
same_front (w ∷ ws) [] = refl
same_front (w ∷ ws) (x ∷ xs) = ap (λ (t : Bool). eqb x w && t) (same_front ws xs)

-- one more pair of bytes is compared
module _ (a b : List ℕ) (i : ℕ) (h : i < length a) (k : i < length b) where
  pub pair_same : get_or a i 0 ≡ get_or b i 0 → same_bytes (drop (i + 1) a) (drop (i + 1) b) ≡ same_bytes (drop i a) (drop i b)
  unfolding same_bytes
  pair_same e = rw (drop_one a i h, drop_one b i k, eq-eqb _ _ e)

  pub pair_other : (get_or a i 0 ≡ get_or b i 0 → ⊥) → same_bytes (drop i a) (drop i b) ≡ false
  unfolding same_bytes
  pair_other e = rw (drop_one a i h, drop_one b i k, ne_eqb _ _ e)

pub pairs_end : (a b : List ℕ) (i : ℕ) → length a ≤ i → length a ≡ length b → same_bytes (drop i a) (drop i b) ≡ true
unfolding same_bytes
pairs_end a b i h e = rw (drop_end a i h, drop_end b i (rw e at h))

-- one more byte is tested
pub all_next : (b : ℕ) (l : List ℕ) (i : ℕ) (z : Bool) → i < length l → ((z && eqb (get_or l i 0) b) && all_same b (drop (i + 1) l)) ≡ (z && all_same b (drop i l))
unfolding all_same
all_next b l i true h = rw (drop_one l i h)
all_next b l i false h = refl

pub all_end : (b : ℕ) (l : List ℕ) (i : ℕ) (z : Bool) → length l ≤ i → (z && all_same b (drop i l)) ≡ z
unfolding all_same
all_end b l i true h = rw (drop_end l i h)
all_end b l i false h = refl
