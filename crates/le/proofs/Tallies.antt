-- Laws of a count: by a test that agrees, at most all, none, and one number more. Assumes nothing.
use mathlib.Core.Path.{◌≡◌, refl, ◌∙◌}
use mathlib.Core.Bool.{Bool, true, false}
use Prim.Native.Nat.{ℕ, zero, suc, ◌+◌, ◌≤◌, ◌<◌}
use native.Mathlib.Numerals.{add-one}
use native.Mathlib.Omega.{arith}
use Rattle.le.specs.Choice.{pick}
use Rattle.le.specs.Tally.{tally}
use Rattle.le.proofs.Choices.{pick_keeps, pick_true, pick_false}

pub tally_ext : (f g : ℕ → Bool) (n : ℕ) → ((c : ℕ) → c < n → f c ≡ g c) → tally f n ≡ tally g n
unfolding tally
tally_ext f g zero h = refl
tally_ext f g (suc n) h = rw (h n (omega arith), tally_ext f g n (λ c q. h c (omega arith)))

pub tally_le : (f : ℕ → Bool) (n : ℕ) → tally f n ≤ n
unfolding tally
tally_le f zero = omega arith
tally_le f (suc n) = pick_keeps (λ (k : ℕ). k ≤ suc n) (f n) (tally f n + 1) (tally f n) (omega (arith, tally_le f n)) (omega (arith, tally_le f n))

pub tally_none : (f : ℕ → Bool) (n : ℕ) → ((c : ℕ) → c < n → f c ≡ false) → tally f n ≡ 0
unfolding tally
tally_none f zero h = refl
tally_none f (suc n) h = pick_false (tally f n + 1) (tally f n) (h n (omega arith)) ∙ tally_none f n (λ c q. h c (omega arith))

pub tally_start : (f : ℕ → Bool) → tally f 0 ≡ 0
unfolding tally
tally_start f = refl

module _ (f : ℕ → Bool) (n : ℕ) where
  tally_step : tally f (n + 1) ≡ pick (f n) (tally f n + 1) (tally f n)
  unfolding tally
  tally_step = rw (add-one n)

  pub tally_yes : f n ≡ true → tally f (n + 1) ≡ tally f n + 1
  tally_yes e = tally_step ∙ pick_true _ _ e

  pub tally_no : f n ≡ false → tally f (n + 1) ≡ tally f n
  tally_no e = tally_step ∙ pick_false _ _ e
