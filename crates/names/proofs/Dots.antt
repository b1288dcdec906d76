-- S-5: a dot name by its segments, as the code looks at them. Assumes nothing.
use Prim.Native.Nat.{ℕ}
use mathlib.Core.Path.{◌≡◌, refl, sym, ap, ◌∙◌}
use mathlib.Core.Bool.{Bool, false, ◌||◌}
use mathlib.Core.List.{List, [], ◌∷◌}
use native.Mathlib.Omega.{arith}
use lib.Dec.{eqb}
use lib.ListN.{length, get_or}
use Rattle.std.specs.List.{list_any, slice_split}
use Rattle.names.specs.Names.{is_slash, segments, begins_dot, some_dot, dotted}
use Rattle.names.proofs.Segments.{as_split}

pub no_dot : (s : List ℕ) → length s ≡ 0 → begins_dot s ≡ false
unfolding begins_dot
no_dot [] e = refl
no_dot (b ∷ bs) e = absurd (omega arith)

pub dot_first : (s : List ℕ) → (length s ≡ 0 → ⊥) → begins_dot s ≡ eqb (get_or s 0 0) 46
unfolding begins_dot
dot_first [] h = absurd (h refl)
dot_first (b ∷ bs) h = refl

pub ruleset first_dot = (no_dot, dot_first)

some_part_dot : (ss : List (List ℕ)) → list_any begins_dot ss ≡ some_dot ss
unfolding some_dot
some_part_dot [] = refl
some_part_dot (s ∷ ss) = ap (λ (t : Bool). begins_dot s || t) (some_part_dot ss)

-- what the code asks of each part
pub by_parts : (l : List ℕ) {t : Bool} → t ≡ list_any begins_dot (slice_split is_slash l) → t ≡ dotted l
unfolding dotted
by_parts l e = e ∙ ap (list_any begins_dot) (sym (as_split l)) ∙ some_part_dot (segments l)
