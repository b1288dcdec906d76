-- A count of the numbers that pass a test. Assumes nothing.
use Rattle.std.specs.Prelude.{ℕ, zero, suc, ◌+◌, Bool}
use Rattle.le.specs.Choice.{pick}

-- how many of the numbers below n pass
unfoldable pub tally : (ℕ → Bool) → ℕ → ℕ
tally f zero = 0
tally f (suc n) = pick (f n) (tally f n + 1) (tally f n)
