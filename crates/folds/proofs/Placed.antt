-- A function with one value replaced. Assumes nothing.
use Prim.Native.Nat.{ℕ, ◌<◌}
use mathlib.Core.Path.{◌≡◌, refl}
use native.Mathlib.Omega.{arith}
use borrow.Author.Tests.{eq-eqb, ne_eqb}
use lib.Dec.{eqb}
use Rattle.le.specs.Choice.{pick}
use Rattle.le.proofs.Choices.{pick_true, pick_false}

-- the function with the value x at k
unfoldable pub placed : (ℕ → ℕ) → ℕ → ℕ → ℕ → ℕ
placed f k x j = pick (eqb j k) x (f j)

pub placed_here : (f : ℕ → ℕ) (k x : ℕ) → placed f k x k ≡ x
unfolding placed
placed_here f k x = pick_true x (f k) (eq-eqb k k refl)

pub placed_below : (f : ℕ → ℕ) (k x j : ℕ) → j < k → placed f k x j ≡ f j
unfolding placed
placed_below f k x j h = pick_false x (f j) (ne_eqb j k (omega arith))
