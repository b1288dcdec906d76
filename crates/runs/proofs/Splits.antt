-- Laws of a list split at a separator: its parts by the length of the first of them. Assumes nothing.
use Prim.Native.Nat.{ℕ, zero, suc, ◌+◌, ◌<◌}
use mathlib.Core.Path.{◌≡◌, refl, ap, ◌∙◌}
use mathlib.Core.Bool.{Bool, true, false}
use mathlib.Core.List.{List, [], ◌∷◌}
use native.Mathlib.Omega.{arith}
use lib.Dec.{eqb}
use lib.ListN.{length, get_or, take, drop}
use Rattle.le.specs.Choice.{pick}
use Rattle.runs.specs.Split.{longer, split_at}

longer_first : (b : ℕ) (ss : List (List ℕ)) → length (get_or (longer b ss) 0 []) ≡ 1 + length (get_or ss 0 [])
unfolding longer
longer_first b [] = refl
longer_first b (s ∷ ss) = omega arith

module _ (sep : ℕ) where
  -- the length of the first part
  abbrev pub first_len : List ℕ → ℕ
  first_len l = length (get_or (split_at sep l) 0 [])

  -- ---- one byte more

  module _ (b : ℕ) (bs : List ℕ) where
    split_here : eqb b sep ≡ true → split_at sep (b ∷ bs) ≡ [] ∷ split_at sep bs
    unfolding split_at pick
    split_here e = rw e

    split_on : eqb b sep ≡ false → split_at sep (b ∷ bs) ≡ longer b (split_at sep bs)
    unfolding split_at pick
    split_on e = rw e

    pub len_here : eqb b sep ≡ true → first_len (b ∷ bs) ≡ 0
    len_here e = rw (split_here e)

    pub len_on : eqb b sep ≡ false → first_len (b ∷ bs) ≡ 1 + first_len bs
    len_on e = rw (split_on e) (longer_first b (split_at sep bs))

  pub len_none : first_len [] ≡ 0
  unfolding split_at
  len_none = refl

  -- there is always a part
  pub some_part : (l : List ℕ) → split_at sep l ≡ get_or (split_at sep l) 0 [] ∷ drop 1 (split_at sep l)
  unfolding split_at pick longer
  some_part [] = refl
  some_part (b ∷ bs) = go (eqb b sep) (split_at sep bs)
    where
      go : (t : Bool) (ss : List (List ℕ)) → pick t ([] ∷ ss) (longer b ss) ≡ get_or (pick t ([] ∷ ss) (longer b ss)) 0 [] ∷ drop 1 (pick t ([] ∷ ss) (longer b ss))
      go true ss = refl
      go false [] = refl
      go false (s ∷ ss) = refl

  -- ---- the first part and the others

  -- a first part as long as the list is the list
  pub whole : (l : List ℕ) → first_len l ≡ length l → split_at sep l ≡ l ∷ []
  unfolding split_at longer
  whole [] h = refl
  whole (b ∷ bs) h = go (eqb b sep) refl (λ k. whole bs k)
    where
      go : (t : Bool) → eqb b sep ≡ t → (first_len bs ≡ length bs → split_at sep bs ≡ bs ∷ []) → split_at sep (b ∷ bs) ≡ (b ∷ bs) ∷ []
      go true e rest = absurd (omega (arith, len_here b bs e))
      go false e rest = split_on b bs e ∙ ap (longer b) (rest (omega (arith, len_on b bs e)))

  -- else a separator follows it, and then the other parts
  pub parted : (l : List ℕ) (k : ℕ) → first_len l ≡ k → k < length l → split_at sep l ≡ take k l ∷ split_at sep (drop (suc k) l)
  unfolding longer
  parted [] k h m = absurd (omega arith)
  parted (b ∷ bs) zero h m = go (eqb b sep) refl
    where
      go : (t : Bool) → eqb b sep ≡ t → split_at sep (b ∷ bs) ≡ [] ∷ split_at sep bs
      go true e = split_here b bs e
      go false e = absurd (omega (arith, len_on b bs e))
  parted (b ∷ bs) (suc k) h m = go (eqb b sep) refl (λ e. parted bs k e (omega arith))
    where
      go : (t : Bool) → eqb b sep ≡ t → (first_len bs ≡ k → split_at sep bs ≡ take k bs ∷ split_at sep (drop (suc k) bs)) → split_at sep (b ∷ bs) ≡ (b ∷ take k bs) ∷ split_at sep (drop (suc k) bs)
      go true e rest = absurd (omega (arith, len_here b bs e))
      go false e rest = split_on b bs e ∙ ap (longer b) (rest (omega (arith, len_on b bs e)))
