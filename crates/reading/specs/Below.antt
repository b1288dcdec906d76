-- S-1: a file's payloads chunk by chunk, and their record numbers: record i of the chunk at position p has the number p * size + i. Assumes nothing.
use Rattle.std.specs.Prelude.{ℕ, ◌+◌, ◌-◌, List, [], ◌∷◌, ◌++◌, map, length, take}
use Rattle.layout.specs.Segments.{Segment}

-- the payloads of a file, chunk by chunk
abbrev pub Parts : Type 0
Parts = List (List (List ℕ))

abbrev pub parts_of : List Segment → Parts
parts_of g = map (λ (s : Segment). s.payloads) g

-- the number at which a reader of these chunks finds the end
unfoldable pub end_number : ℕ → Parts → ℕ
end_number size [] = 0
end_number size (p ∷ []) = length p
end_number size (p ∷ q ∷ ps) = size + end_number size (q ∷ ps)

-- the payloads with a number below n
unfoldable pub below : ℕ → ℕ → Parts → List (List ℕ)
below size n [] = []
below size n (p ∷ ps) = take n p ++ below size (n - size) ps
