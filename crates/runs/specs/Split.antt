-- A list of bytes split at a separator: 01's segments of a name, its fields "parted by tabs". Assumes nothing.
use Rattle.std.specs.Prelude.{ℕ, List, [], ◌∷◌, eqb}
use Rattle.le.specs.Choice.{pick}

-- a byte put before the first part
unfoldable pub longer : ℕ → List (List ℕ) → List (List ℕ)
longer b [] = (b ∷ []) ∷ []
longer b (s ∷ ss) = (b ∷ s) ∷ ss

-- the list split at each separator: one part more than there are separators
unfoldable pub split_at : ℕ → List ℕ → List (List ℕ)
split_at sep [] = [] ∷ []
split_at sep (b ∷ bs) = pick (eqb b sep) ([] ∷ split_at sep bs) (longer b (split_at sep bs))
