-- 02, S-3: a map of 32 words of 64 bits, a set bit for each free chunk, and whether it is fit to be used. Bit c is binary digit c % 64 of word c / 64.
-- Assumes nothing.
use Rattle.std.specs.Prelude.{ℕ, zero, suc, ◌+◌, ◌-◌, ◌*◌, ◌/◌, ◌%◌, ◌^◌, Bool, true, false, List, [], ◌∷◌, eqb, ltb, get_or}
use Rattle.le.specs.Choice.{pick}
use Rattle.le.specs.Part.{zeros}
use Rattle.le.specs.Tally.{tally}
use Rattle.freemap.specs.declared.FreeMap.{FreeMap}

-- bit c is set
unfoldable pub marks : List ℕ → ℕ → Bool
marks ws c = eqb (get_or ws (c / 64) 0 / 2 ^ (c % 64) % 2) 1

-- the words whose bits a test tells: the number of k binary digits from bit c on, n such words, and all 32
unfoldable pub word_of : (ℕ → Bool) → ℕ → ℕ → ℕ
word_of f zero c = 0
word_of f (suc k) c = pick (f c) 1 0 + 2 * word_of f k (c + 1)

unfoldable pub words_from : (ℕ → Bool) → ℕ → ℕ → List ℕ
words_from f zero c = []
words_from f (suc n) c = word_of f 64 c ∷ words_from f n (c + 64)

abbrev pub words_of : (ℕ → Bool) → List ℕ
words_of f = words_from f 32 0

-- the map whose bits a test tells, that of all chunks, and the unfit one
abbrev pub map_of : (ℕ → Bool) → FreeMap
map_of f = record { fit = true; words = words_of f }

abbrev pub full_of : ℕ → FreeMap
full_of chunks = map_of (λ c. ltb c chunks)

unfoldable pub unfit_of : FreeMap
unfit_of = record { fit = false; words = zeros 32 }

-- bit c as told, every other as it was
abbrev pub put_of : List ℕ → ℕ → Bool → List ℕ
put_of ws c free = words_of (λ d. pick (eqb d c) free (marks ws d))

-- the first set bit of n from bit c on, and of all at or after bit c; 2,048 where there is none
unfoldable pub first_in : List ℕ → ℕ → ℕ → ℕ
first_in ws zero c = 2048
first_in ws (suc n) c = pick (marks ws c) c (first_in ws n (c + 1))

abbrev pub first_from : List ℕ → ℕ → ℕ
first_from ws c = first_in ws (2048 - c) c

-- the first set bit at or after the cursor, going round; 2,048 where there is none
unfoldable pub chosen_of : List ℕ → ℕ → ℕ
chosen_of ws cursor = pick (ltb (first_from ws cursor) 2048) (first_from ws cursor) (first_from ws 0)

-- the number of set bits
abbrev pub ones_of : List ℕ → ℕ
ones_of ws = tally (marks ws) 2048

-- no bit is set at or past the chunks, and none in an unfit map
unfoldable pub map_ok : FreeMap → ℕ → Bool
map_ok map chunks = eqb (first_from map.words (pick map.fit chunks 0)) 2048
