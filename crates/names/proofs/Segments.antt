-- A name by its segments, and a directory by its last byte, as the code tests them. Assumes nothing.
use Prim.Native.Nat.{ℕ, ◌-◌, ◌≤◌, ◌<◌}
use mathlib.Core.Path.{◌≡◌, refl, sym, ap, ◌∙◌}
use mathlib.Core.Bool.{Bool, true, false, ◌&&◌, ◌||◌, cond, and-true, and-false, and_assoc, or-true, or-false}
use mathlib.Core.List.{List, [], ◌∷◌, ◌++◌}
use native.Mathlib.Omega.{arith}
use borrow.Author.Tests.{eq-eqb, ne_eqb, le-leb, lt-leb}
use lib.Dec.{eqb, leb}
use lib.ListN.{length, length-append}
use lib.Seq.{take_at, get_or_at}
use Rattle.std.specs.List.{list_all, slice_split, onto_first}
use Rattle.le.specs.Choice.{pick}
use Rattle.runs.specs.Split.{longer, split_at}
use Rattle.runs.proofs.Splits.{some_part}
use Rattle.names.specs.Names.{between, is_slash, plain_byte, every_byte, every_plain, segments, none_empty, name_ok, last_byte, all_but_last, dir_ok}

-- the alphabet in another turn
pub in_turn : (upper lower digit dot under dash : Bool) → (((digit || upper) || lower) || (dot || (under || dash))) ≡ (upper || (lower || (digit || (dot || (under || dash)))))
in_turn true lower true dot under dash = refl
in_turn true lower false dot under dash = refl
in_turn false true true dot under dash = refl
in_turn false true false dot under dash = refl
in_turn false false true dot under dash = refl
in_turn false false false dot under dash = refl

-- ---- the segments are the parts that std's split gives

pub as_split : (l : List ℕ) → segments l ≡ slice_split is_slash l
unfolding split_at longer pick
as_split [] = refl
as_split (b ∷ bs) = go (is_slash b) (segments bs) (slice_split is_slash bs) (as_split bs)
  where
    go : (t : Bool) (ss ps : List (List ℕ)) → ss ≡ ps → pick t ([] ∷ ss) (longer b ss) ≡ cond t ([] ∷ ps) (onto_first b ps)
    go true ss ps e = rw e
    go false [] ps e = rw (← e)
    go false (s ∷ ss) ps e = rw (← e)

-- a segment that is no empty one and of the alphabet
abbrev pub segment_ok : List ℕ → Bool
segment_ok s = leb 1 (length s) && every_plain s

pub all_plain : (s : List ℕ) {t : Bool} → (length s ≡ 0 → ⊥) → t ≡ list_all plain_byte s → t ≡ segment_ok s
unfolding every_plain
all_plain s h e = rw (le-leb 1 (length s) (omega (arith, h))) (e ∙ each s)
  where
    each : (x : List ℕ) → list_all plain_byte x ≡ every_plain x
    each [] = refl
    each (b ∷ bs) = ap (λ (t : Bool). plain_byte b && t) (each bs)

plain_parts : (l : List ℕ) → list_all every_plain (segments l) ≡ every_byte l
unfolding split_at longer pick every_plain every_byte
plain_parts [] = refl
plain_parts (b ∷ bs) = go (is_slash b) (segments bs) (some_part 47 bs) (plain_parts bs)
  where
    go : (t : Bool) (ss : List (List ℕ)) {f : List ℕ} {fs : List (List ℕ)} → ss ≡ f ∷ fs → list_all every_plain ss ≡ every_byte bs
        → list_all every_plain (pick t ([] ∷ ss) (longer b ss)) ≡ ((plain_byte b || t) && every_byte bs)
    go true ss e h = rw (or-true (plain_byte b)) h
    go false [] e h = absurd (let z : ◌≡◌ {A = ℕ} 0 1 = cc in omega arith)
    go false (s ∷ ss) e h = rw (or-false (plain_byte b)) (and_assoc (plain_byte b) (every_plain s) (list_all every_plain ss) ∙ ap (λ (t : Bool). plain_byte b && t) h)

parts_ok : (ss : List (List ℕ)) → list_all segment_ok ss ≡ (list_all every_plain ss && none_empty ss)
unfolding every_plain none_empty
parts_ok [] = refl
parts_ok ([] ∷ ss) = sym (and-false (list_all every_plain ss))
parts_ok ((b ∷ bs) ∷ ss) =
    rw (le-leb 1 (length (b ∷ bs)) (omega arith)) (ap (λ (t : Bool). every_plain (b ∷ bs) && t) (parts_ok ss) ∙ sym (and_assoc (every_plain (b ∷ bs)) (list_all every_plain ss) (none_empty ss)))

-- what the code asks of each part
pub by_parts : (l : List ℕ) {t : Bool} → length l ≤ 40 → t ≡ list_all segment_ok (slice_split is_slash l) → t ≡ name_ok l
unfolding name_ok split_at every_byte none_empty
by_parts l h e = e ∙ ap (list_all segment_ok) (sym (as_split l)) ∙ parts_ok (segments l) ∙ rw (plain_parts l) (go l h)
  where
    go : (x : List ℕ) → length x ≤ 40 → (every_byte x && none_empty (segments x)) ≡ (between 1 40 (length x) && (every_byte x && none_empty (segments x)))
    go [] h = refl
    go (b ∷ bs) h = rw (le-leb 1 (length (b ∷ bs)) (omega arith), le-leb (length (b ∷ bs)) 40 h)

pub too_long : (l : List ℕ) → 40 < length l → name_ok l ≡ false
unfolding name_ok
too_long l h = rw (le-leb 1 (length l) (omega arith), lt-leb (length l) 40 h)

-- ---- a list that is parted into its last byte and the bytes before it

module _ (l rest : List ℕ) (b : ℕ) (parted : l ≡ rest ++ (b ∷ [])) where
  ends : length l - 1 ≡ length rest
  ends = rw (parted, length-append) (omega arith)

  pub last_is : last_byte l ≡ b
  unfolding last_byte
  last_is = rw parted (get_or_at rest b [] 0 (length (rest ++ (b ∷ [])) - 1) (sym (rw parted at ends)))

  pub front_is : all_but_last l ≡ rest
  unfolding all_but_last
  front_is = rw parted (take_at rest (b ∷ []) (length (rest ++ (b ∷ [])) - 1) (sym (rw parted at ends)))

  some : eqb (length l) 0 ≡ false
  some = ne_eqb (length l) 0 (rw (parted, length-append) (omega arith))

  -- a directory, by the code's tests

  pub dir_long : 40 < length l → dir_ok l ≡ false
  unfolding dir_ok
  dir_long h = rw (some, lt-leb (length l) 40 h, and-false (name_ok (all_but_last l)), and-false (is_slash (last_byte l)))

  pub dir_open : (b ≡ 47 → ⊥) → dir_ok l ≡ false
  unfolding dir_ok
  dir_open h = rw (some, last_is, ne_eqb b 47 h)

  pub dir_name : length l ≤ 40 → b ≡ 47 → dir_ok l ≡ name_ok rest
  unfolding dir_ok
  dir_name h e = rw (some, last_is, eq-eqb b 47 e, le-leb (length l) 40 h, front_is) (and-true (name_ok rest))

pub dir_none : (l : List ℕ) → length l ≡ 0 → dir_ok l ≡ true
unfolding dir_ok
dir_none l e = rw (eq-eqb (length l) 0 e)

pub ruleset dir_forms = (dir_none, dir_long, dir_open, dir_name)
