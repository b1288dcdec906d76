-- S-5: one pass over a name that looks for a dot where a segment starts gives what the split into segments does, as the definition has it. The code
-- splits too; the pass is how the Rust goes. Assumes nothing.
use Prim.Native.Nat.{ℕ}
use mathlib.Core.Path.{◌≡◌, refl, sym}
use mathlib.Core.Bool.{Bool, true, false, ◌&&◌, ◌||◌, and-false}
use mathlib.Core.List.{List, [], ◌∷◌}
use borrow.Author.Tests.{eqb-true}
use lib.Dec.{eqb}
use Rattle.le.specs.Choice.{pick}
use Rattle.runs.specs.Split.{longer, split_at}
use Rattle.names.specs.Names.{is_slash, segments, begins_dot, some_dot, dotted}

-- a dot where a segment starts
abbrev pub starts : Bool → ℕ → Bool
starts fresh b = fresh && eqb b 46

-- the bytes from here on. Only proofs speak of it: `dot_scan` ties it to `dotted`
unfoldable pub dots : Bool → List ℕ → Bool
dots fresh [] = false
dots fresh (b ∷ bs) = starts fresh b || dots (is_slash b) bs

-- ---- the pass is the split: where no segment starts the first one has bytes already

abbrev others : List (List ℕ) → List (List ℕ)
others [] = []
others (s ∷ ss) = ss

abbrev left : Bool → List (List ℕ) → List (List ℕ)
left true ss = ss
left false ss = others ss

left_longer : (fresh : Bool) (b : ℕ) (ss : List (List ℕ)) → some_dot (left fresh (longer b ss)) ≡ (starts fresh b || some_dot (others ss))
unfolding some_dot begins_dot longer
left_longer true b [] = refl
left_longer true b (s ∷ ss) = refl
left_longer false b [] = refl
left_longer false b (s ∷ ss) = refl

slash_no_dot : (fresh : Bool) (b : ℕ) → is_slash b ≡ true → starts fresh b ≡ false
slash_no_dot fresh b e = rw (eqb-true b 47 e) (and-false fresh)

module _ (b : ℕ) (bs : List ℕ) (rest : (fresh : Bool) → dots fresh bs ≡ some_dot (left fresh (segments bs))) where
  dots_byte : (fresh s : Bool) → is_slash b ≡ s → dots fresh (b ∷ bs) ≡ some_dot (left fresh (segments (b ∷ bs)))
  unfolding dots split_at some_dot begins_dot pick
  dots_byte true true e = rw (slash_no_dot true b e, e) (rest true)
  dots_byte false true e = rw e (rest true)
  dots_byte fresh false e = rw (e, left_longer fresh b (segments bs), rest false)

dots_left : (l : List ℕ) (fresh : Bool) → dots fresh l ≡ some_dot (left fresh (segments l))
unfolding dots split_at some_dot begins_dot
dots_left [] true = refl
dots_left [] false = refl
dots_left (b ∷ bs) fresh = dots_byte b bs (dots_left bs) fresh (is_slash b) refl

pub dot_scan : (l : List ℕ) → dotted l ≡ dots true l
unfolding dotted
dot_scan l = sym (dots_left l true)
