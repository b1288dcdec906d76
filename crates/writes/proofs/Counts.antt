-- Counting the sectors of which something holds. Assumes nothing.
use Prim.Native.Nat.{ℕ, zero, suc, ◌+◌, ◌≤◌, ◌<◌}
use mathlib.Core.Path.{◌≡◌, refl}
use mathlib.Core.Bool.{Bool, true, false, ◌||◌}
use native.Mathlib.Nat.{add-zero}
use native.Mathlib.Omega.{arith}
use Rattle.le.specs.Choice.{pick}
use Rattle.le.specs.Tally.{tally}
use Rattle.le.proofs.Choices.{pick_keeps_by}
use Rattle.le.proofs.Tallies.{tally_none, tally_yes, tally_no}

-- n more are at least as many
pub tally_on : (f : ℕ → Bool) (n k : ℕ) → tally f k ≤ tally f (k + n)
tally_on f zero k = rw (add-zero k) (omega arith)
tally_on f (suc n) k = go (f (k + n)) refl (tally_on f n k)
  where
    z : k + suc n ≡ k + n + 1
    z = omega arith

    go : (t : Bool) → f (k + n) ≡ t → tally f k ≤ tally f (k + n) → tally f k ≤ tally f (k + suc n)
    go true e x = let y = tally_yes f (k + n) e in rw z (omega (arith, x, y))
    go false e x = let y = tally_no f (k + n) e in rw z (omega (arith, x, y))

-- t more are at most t
pub tally_wide : (f : ℕ → Bool) (n t : ℕ) → tally f (n + t) ≤ tally f n + t
tally_wide f n zero = rw (add-zero n) (omega arith)
tally_wide f n (suc t) = go (f (n + t)) refl (tally_wide f n t)
  where
    z : n + suc t ≡ n + t + 1
    z = omega arith

    go : (b : Bool) → f (n + t) ≡ b → tally f (n + t) ≤ tally f n + t → tally f (n + suc t) ≤ tally f n + suc t
    go true e y = let x = tally_yes f (n + t) e in rw z (omega (arith, x, y))
    go false e y = let x = tally_no f (n + t) e in rw z (omega (arith, x, y))

pub tally_either : (f g : ℕ → Bool) (n : ℕ) → tally (λ k. f k || g k) n ≤ tally f n + tally g n
unfolding tally pick
tally_either f g zero = omega arith
tally_either f g (suc n) = go (f n) (g n) (tally f n) (tally g n) (tally (λ k. f k || g k) n) (tally_either f g n)
  where
    go : (a b : Bool) (x y z : ℕ) → z ≤ x + y → pick (a || b) (z + 1) z ≤ pick a (x + 1) x + pick b (y + 1) y
    go true true x y z h = omega arith
    go true false x y z h = omega arith
    go false true x y z h = omega arith
    go false false x y z h = h

-- one sector, and none
pub tally_single : (f : ℕ → Bool) (a n : ℕ) → ((k : ℕ) → k < n → f k ≡ true → k ≡ a) → tally f n ≤ 1
unfolding tally
tally_single f a zero h = omega arith
tally_single f a (suc n) h =
    let rest = tally_single f a n (λ k l. h k (omega arith)) in
    pick_keeps_by (λ (z : ℕ). z ≤ 1) (f n) _ _
    (λ e. let z = tally_none f n (λ k l. not_there k l (h n (omega arith) e) (f k) refl) in omega (arith, z))
    (λ _. rest)
  where
    not_there : (k : ℕ) → k < n → n ≡ a → (b : Bool) → f k ≡ b → f k ≡ false
    not_there k l q true e = absurd (let z = h k (omega arith) e in let w : ⊥ = omega (arith, z, q) in w)
    not_there k l q false e = e
