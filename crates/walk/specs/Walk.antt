-- 01, "What must change shape": "Closures in scan, table, commit: a named edit or a step". A walk visits i, i + 1, .. n - 1 in order, carries a state,
-- and may stop early with an answer. Assumes nothing.
use Rattle.std.specs.Prelude.{ℕ, zero, suc, ◌+◌, ◌-◌}

-- what a visit says: go on with this state, or stop with this answer
pub data Visit (S R : Type 0) : Type 0 where
  next : S → Visit S R
  stop : R → Visit S R

-- what follows a visit
abbrev pub after_visit : {S R : Type 0} → Visit S R → (S → R) → R
after_visit (next t) k = k t
after_visit (stop r) k = r

-- `count` visits from number i on
unfoldable pub walk : {S R : Type 0} → (ℕ → S → Visit S R) → (S → R) → ℕ → ℕ → S → R
walk f done zero i s = done s
walk f done (suc count) i s = after_visit (f i s) (λ t. walk f done count (i + 1) t)

-- the visits of i to n - 1
abbrev pub rest : {S R : Type 0} → (ℕ → S → Visit S R) → (S → R) → ℕ → ℕ → S → R
rest f done n i s = walk f done (n - i) i s

-- a walk over items: item i is handed to the visitor together with i and the state
unfoldable pub visits : {X S R : Type 0} → (ℕ → S → X → Visit S R) → (ℕ → X) → (S → R) → ℕ → ℕ → S → R
visits on item done n i s = rest (λ k t. on k t (item k)) done n i s
