-- What the tests on runs of bytes tell: of the same bytes, of zeros, of a list that begins with another, of one byte throughout. Assumes nothing.
use mathlib.Core.Path.{◌≡◌, refl, ap₂}
use mathlib.Core.Bool.{true, false, and-false, false≢true}
use mathlib.Core.List.{List, [], ◌∷◌}
use Prim.Native.Nat.{ℕ, zero, suc, ◌<◌}
use native.Mathlib.Omega.{arith}
use borrow.Author.Tests.{eqb-true, eq-eqb, ne_eqb}
use lib.Dec.{eqb}
use lib.ListN.{length, get_or, take}
use Rattle.le.specs.Part.{zeros}
use Rattle.le.proofs.Bools.{and_true}
use Rattle.runs.specs.Run.{starts_with, same_bytes, all_same, all_zero}

-- a list is the same as itself, and as no other
pub same_self : (l : List ℕ) → same_bytes l l ≡ true
unfolding same_bytes
same_self [] = refl
same_self (x ∷ xs) = rw (eq-eqb x x refl) (same_self xs)

pub same_true : (a b : List ℕ) → same_bytes a b ≡ true → a ≡ b
unfolding same_bytes
same_true [] [] h = refl
same_true [] (y ∷ ys) h = absurd (false≢true h)
same_true (x ∷ xs) [] h = absurd (false≢true h)
same_true (x ∷ xs) (y ∷ ys) h =
    let p = and_true (eqb x y) (same_bytes xs ys) h in
    ap₂ (λ (z : ℕ) (zs : List ℕ). z ∷ zs) (eqb-true x y p.0) (same_true xs ys p.1)

-- zeros pass the test, and nothing else does
pub zeros_pass : (n : ℕ) → all_zero (zeros n) ≡ true
unfolding all_same zeros
zeros_pass zero = refl
zeros_pass (suc n) = zeros_pass n

pub zero_zeros : (l : List ℕ) → all_zero l ≡ true → l ≡ zeros (length l)
unfolding all_same zeros
zero_zeros [] h = refl
zero_zeros (x ∷ xs) h =
    let p = and_true (eqb x 0) (all_zero xs) h in
    ap₂ (λ (z : ℕ) (zs : List ℕ). z ∷ zs) (eqb-true x 0 p.0) (zero_zeros xs p.1)

-- a list begins with what it has in front, and with nothing longer
pub starts_front : (w s : List ℕ) → take (length w) s ≡ w → starts_with w s ≡ true
unfolding starts_with
starts_front [] s e = refl
starts_front (w ∷ ws) [] e = absurd (let z : ◌≡◌ {A = ℕ} 0 1 = cc in omega arith)
starts_front (w ∷ ws) (x ∷ xs) e =
    let p : x ≡ w = cc in
    let q : take (length ws) xs ≡ ws = cc in
    rw (eq-eqb x w p) (starts_front ws xs q)

pub starts_long : (w l : List ℕ) → length l < length w → starts_with w l ≡ false
unfolding starts_with
starts_long [] l h = absurd (omega arith)
starts_long (x ∷ xs) [] h = refl
starts_long (x ∷ xs) (y ∷ ys) h = rw (starts_long xs ys (omega arith)) (and-false (eqb y x))

-- bytes that are all the same are that of the first, and begin with no other
pub all_first : (b : ℕ) (l : List ℕ) → 0 < length l → (get_or l 0 0 ≡ b → ⊥) → all_same b l ≡ false
unfolding all_same
all_first b [] h n = absurd (omega arith)
all_first b (x ∷ xs) h n = rw (ne_eqb x b n)

pub all_starts : (b w : ℕ) (ws l : List ℕ) → (b ≡ w → ⊥) → all_same b l ≡ true → starts_with (w ∷ ws) l ≡ false
unfolding all_same starts_with
all_starts b w ws [] n h = refl
all_starts b w ws (x ∷ xs) n h =
    let e : x ≡ b = eqb-true x b (and_true (eqb x b) (all_same b xs) h).0 in
    rw (e, ne_eqb b w n)
