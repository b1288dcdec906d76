-- The fields of a line, found by their ends one after the other. Assumes nothing.
use Prim.Native.Nat.{ℕ, suc, ◌+◌, ◌-◌, ◌≤◌, ◌<◌}
use mathlib.Core.Path.{◌≡◌, ◌∙◌}
use mathlib.Core.List.{List, [], ◌∷◌}
use native.Mathlib.Omega.{arith}
use lib.Dec.{eqb}
use lib.ListN.{length, take, drop, length-drop}
use lib.Seq.{take_all, drop-drop}
use mathlib.Core.Bool.{Bool, true, false, not, cond}
use mathlib.Core.Path.{refl}
use Rattle.std.specs.Prelude.{Option, Some, None}
use Rattle.std.specs.List.{position, position_or_len}
use Rattle.std.proofs.lemmas.Bool.Decides.{nat_tests}
use Rattle.std.proofs.lemmas.List.Recursion.{is_position_or_len}
use Rattle.std.proofs.lemmas.List.Sums.{prefix_len-le-length}
use Rattle.runs.proofs.Splits.{len_here, len_on, len_none, whole, parted}
use Rattle.decimal.specs.Fields.{fields, field_len}

-- ---- the first field ends at the first tab

first_tab : (l : List ℕ) → field_len l ≡ position_or_len (λ b. eqb b 9) l
unfolding field_len
first_tab = is_position_or_len field_len (λ b. eqb b 9) (len_none 9) (λ b bs. here b bs (eqb b 9) refl)
  where
    here : (b : ℕ) (bs : List ℕ) (t : Bool) → eqb b 9 ≡ t → field_len (b ∷ bs) ≡ cond t 0 (1 + field_len bs)
    here b bs true e = len_here 9 b bs e
    here b bs false e = len_on 9 b bs e

-- where the search found it, and where it found none
pub tab_found : (l : List ℕ) {o : Option ℕ} {n : ℕ} → o ≡ position (λ b. eqb b 9) l → o ≡ Some n → (field_len l ≡ n) × (n ≤ length l)
tab_found l {n = n} e f =
    let most = prefix_len-le-length (λ b. not (eqb b 9)) l in
    grind (arith, nat_tests, first_tab l)

pub tab_none : (l : List ℕ) {o : Option ℕ} → o ≡ position (λ b. eqb b 9) l → o ≡ None → field_len l ≡ length l
tab_none l e f =
    let most = prefix_len-le-length (λ b. not (eqb b 9)) l in
    grind (arith, nat_tests, first_tab l)

-- ---- the fields from a place on, by the end of the first of them

module _ (l : List ℕ) (from to : ℕ) (told : to ≡ from + field_len (drop from l)) where
  pub last_field : to ≡ length l → fields (drop from l) ≡ drop from l ∷ []
  unfolding field_len
  last_field e = whole 9 (drop from l) (rw length-drop (omega arith))

  pub next_field : to < length l → fields (drop from l) ≡ take (to - from) (drop from l) ∷ fields (drop (to + 1) l)
  unfolding field_len
  next_field h =
      let e : from + suc (to - from) ≡ to + 1 = omega arith in
      parted 9 (drop from l) (to - from) (omega arith) (rw length-drop (omega arith)) ∙ rw (drop-drop (suc (to - from)) from l, e)

-- a part lent as `&l[a..]`
pub tail_part : (a : ℕ) (l : List ℕ) → take (length l - a) (drop a l) ≡ drop a l
tail_part a l = take_all (length l - a) (drop a l) (rw length-drop (omega arith))
