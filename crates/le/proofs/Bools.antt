-- Laws of tests joined by `&&`, `||` and `not`: what the whole tells of its parts. Assumes nothing.
use mathlib.Core.Path.{◌≡◌, refl}
use mathlib.Core.Bool.{Bool, true, false, not, ◌&&◌, ◌||◌, and-eq-true_iff, or-true, true≢false, false≢true}

-- both parts of a test that holds
pub and_true : (a b : Bool) → (a && b) ≡ true → (a ≡ true) × (b ≡ true)
and_true a b e = (and-eq-true_iff a b).0 e

-- neither part of one that fails
pub or_false : (a b : Bool) → (a || b) ≡ false → (a ≡ false) × (b ≡ false)
or_false true b e = absurd (true≢false e)
or_false false b e = (refl, e)

-- where the first part fails, the second holds
pub or_right : (a b : Bool) → (a || b) ≡ true → a ≡ false → b ≡ true
or_right true b e q = absurd (true≢false q)
or_right false b e q = e

-- a test one of whose parts holds, the second
pub or_second : (a b : Bool) → b ≡ true → (a || b) ≡ true
or_second a b q = rw q (or-true a)

-- the second part, asked only where the first holds
pub where_true : (a b : Bool) → (not a || b) ≡ true → a ≡ true → b ≡ true
where_true true b e q = e
where_true false b e q = absurd (false≢true q)
