-- A line and its fields: fields without tabs, joined by tabs, are the fields of the line, and a line is its fields joined. Assumes nothing.
use Prim.Native.Nat.{ℕ, suc, ◌<◌}
use mathlib.Core.Path.{◌≡◌, refl, ◌∙◌}
use mathlib.Core.Bool.{Bool, true, false}
use mathlib.Core.List.{List, [], ◌∷◌, ◌++◌}
use native.Mathlib.Numerals.{add-one}
use native.Mathlib.Omega.{arith}
use borrow.Author.Tests.{eqb-true, ne_eqb}
use lib.Dec.{eqb}
use lib.ListN.{length, get_or, drop, length-append}
use lib.Seq.{take-append_seam, drop-append-add}
use Rattle.le.specs.Choice.{pick}
use Rattle.le.proofs.Bools.{and_true}
use Rattle.runs.specs.Split.{longer, split_at}
use Rattle.runs.proofs.Splits.{len_here, len_on, some_part, whole, parted}
use Rattle.decimal.specs.Fields.{fields, field_len}
use Rattle.decimal.specs.Decimal.{is_digit, all_digits}
use Rattle.decimal.proofs.Digits.{digit_range}

-- with a tab between each two
abbrev pub joined : List (List ℕ) → List ℕ
joined [] = []
joined (f ∷ []) = f
joined (f ∷ g ∷ gs) = f ++ (9 ∷ joined (g ∷ gs))

pub joined_fields : (l : List ℕ) → joined (fields l) ≡ l
unfolding split_at longer pick
joined_fields [] = refl
joined_fields (b ∷ bs) =
    let rest : joined (get_or (fields bs) 0 [] ∷ drop 1 (fields bs)) ≡ bs = rw (← some_part 9 bs) (joined_fields bs) in
    rw (some_part 9 bs) (go (eqb b 9) refl (get_or (fields bs) 0 []) (drop 1 (fields bs)) rest)
  where
    go : (t : Bool) → eqb b 9 ≡ t → (f : List ℕ) (fs : List (List ℕ)) → joined (f ∷ fs) ≡ bs → joined (pick t ([] ∷ f ∷ fs) (longer b (f ∷ fs))) ≡ b ∷ bs
    go true e f fs h = rw (h, eqb-true b 9 e)
    go false e f [] h = rw h
    go false e f (g ∷ gs) h = rw h

-- ---- a list is a field where it has no tab: its first field is as long as it is

pub digits_field : (l : List ℕ) → all_digits l ≡ true → field_len l ≡ length l
unfolding all_digits field_len split_at
digits_field [] e = refl
digits_field (b ∷ bs) e =
    let p = and_true (is_digit b) (all_digits bs) e in
    omega (arith, len_on 9 b bs (ne_eqb b 9 (λ q. omega (arith, digit_range b p.0))), digits_field bs p.1)

len_then : (l rest : List ℕ) → field_len l ≡ length l → field_len (l ++ (9 ∷ rest)) ≡ length l
unfolding field_len
len_then [] rest h = len_here 9 9 rest refl
len_then (b ∷ bs) rest h = go (eqb b 9) refl (λ k. len_then bs rest k)
  where
    go : (t : Bool) → eqb b 9 ≡ t → (field_len bs ≡ length bs → field_len (bs ++ (9 ∷ rest)) ≡ length bs) → field_len (b ∷ (bs ++ (9 ∷ rest))) ≡ suc (length bs)
    go true e more = absurd (omega (arith, len_here 9 b bs e))
    go false e more = omega (arith, len_on 9 b (bs ++ (9 ∷ rest)) e, more (omega (arith, len_on 9 b bs e)))

pub field_then : (l rest : List ℕ) → field_len l ≡ length l → fields (l ++ (9 ∷ rest)) ≡ l ∷ fields rest
unfolding field_len
field_then l rest h =
    let m : length l < length (l ++ (9 ∷ rest)) = rw length-append (omega arith) in
    parted 9 (l ++ (9 ∷ rest)) (length l) (len_then l rest h) m
    ∙ rw (take-append_seam l (9 ∷ rest), ← add-one (length l), drop-append-add l (9 ∷ rest) 1)

pub field_alone : (l : List ℕ) → field_len l ≡ length l → fields l ≡ l ∷ []
unfolding field_len
field_alone l h = whole 9 l h
