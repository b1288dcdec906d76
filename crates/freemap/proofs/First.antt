-- The first set bit from a place on: what it is, how it is found word by word, and the one that is chosen going round. Assumes nothing.
use mathlib.Core.Path.{◌≡◌, refl, sym, ap, ◌∙◌, subst}
use mathlib.Core.Bool.{Bool, true, false, true≢false, ◌&&◌}
use mathlib.Core.List.{List}
use Prim.Native.Nat.{ℕ, zero, suc, ◌+◌, ◌-◌, ◌*◌, ◌/◌, ◌%◌, ◌^◌, ◌≤◌, ◌<◌, zero-le}
use native.Mathlib.Nat.{add-zero, zero-add, not-le_of_lt}
use native.Mathlib.Omega.{arith}
use borrow.Author.Tests.{ltb-true, ltb-false, lt-ltb, le-ltb, eqb-true, eqb-false, ne_eqb}
use lib.Count.{count_trailing_zeros}
use lib.Dec.{eqb, ltb}
use lib.ListN.{get_or}
use lib.Pow.{shr_lt}
use Rattle.le.specs.Choice.{pick}
use Rattle.le.proofs.Choices.{pick_true, pick_false}
use Rattle.freemap.specs.Map.{marks, first_in, first_from, chosen_of}
use Rattle.freemap.proofs.Digits.{digit, digit_shr, digit_zero, trailing_set, trailing_below, trailing_short}
use Rattle.freemap.proofs.Words.{mark_at}

-- no bit is set from a up to b
abbrev pub None : List ℕ → ℕ → ℕ → Type 0
None ws a b = (c : ℕ) → a ≤ c → c < b → marks ws c ≡ false

-- ---- the definition, place by place

module _ (ws : List ℕ) where
  first_skip : (m n c : ℕ) → None ws c (c + m) → first_in ws (m + n) c ≡ first_in ws n (c + m)
  unfolding first_in
  first_skip zero n c off = rw (zero-add n, add-zero c)
  first_skip (suc m) n c off =
      let a : suc m + n ≡ suc (m + n) = omega arith in
      let b : c + 1 + m ≡ c + suc m = omega arith in
      ap (λ (k : ℕ). first_in ws k c) a ∙ pick_false c (first_in ws (m + n) (c + 1)) (off c (omega arith) (omega arith))
      ∙ first_skip m n (c + 1) (λ d x y. off d (omega arith) (omega arith)) ∙ ap (first_in ws n) b

  -- places with no set bit are passed over
  from_skip : (a b : ℕ) → a ≤ b → b ≤ 2048 → None ws a b → first_from ws a ≡ first_from ws b
  from_skip a b h k off =
      let m : 2048 - a ≡ (b - a) + (2048 - b) = omega arith in
      let e : a + (b - a) ≡ b = omega arith in
      ap (λ (n : ℕ). first_in ws n a) m ∙ first_skip (b - a) (2048 - b) a (λ d x y. off d x (omega (arith, y))) ∙ ap (first_in ws (2048 - b)) e

  from_here : (c : ℕ) → c < 2048 → marks ws c ≡ true → first_from ws c ≡ c
  unfolding first_in
  from_here c h m =
      let e : 2048 - c ≡ suc (2047 - c) = omega arith in
      ap (λ (n : ℕ). first_in ws n c) e ∙ pick_true c (first_in ws (2047 - c) (c + 1)) m

  pub from_past : (c : ℕ) → 2048 ≤ c → first_from ws c ≡ 2048
  unfolding first_in
  from_past c h = let e : 2048 - c ≡ 0 = omega arith in ap (λ (n : ℕ). first_in ws n c) e

  -- ---- word by word

  -- the bits from c on within its word, by that word shifted down
  shifted : (c i : ℕ) → c % 64 + i < 64 → marks ws (c + i) ≡ eqb (digit (get_or ws (c / 64) 0 / 2 ^ (c % 64)) i) 1
  shifted c i h =
      let e : c + i ≡ 64 * (c / 64) + (c % 64 + i) = omega arith in
      ap (marks ws) e ∙ mark_at ws (c / 64) (c % 64 + i) h ∙ ap (λ (d : ℕ). eqb d 1) (sym (digit_shr (get_or ws (c / 64) 0) (c % 64) i))

  module _ (c x : ℕ) (inside : c < 2048) (is : x ≡ get_or ws (c / 64) 0 / 2 ^ (c % 64)) where
    -- the bit d of the word of c, where that of the shifted word is not set
    not_set_lem : (d : ℕ) → c ≤ d → d < 64 * (c / 64 + 1) → digit x (d - c) ≡ 0 → marks ws d ≡ false
    not_set_lem d lo hi z =
        let e : c + (d - c) ≡ d = omega arith in
        ap (marks ws) (sym e) ∙ shifted c (d - c) (omega arith) ∙ ap (λ (w : ℕ). eqb (digit w (d - c)) 1) (sym is) ∙ ap (λ (n : ℕ). eqb n 1) z

    -- nothing is set in the rest of the word
    pub from_zero : x ≡ 0 → first_from ws (64 * (c / 64 + 1)) ≡ first_from ws c
    from_zero z =
        sym (from_skip c (64 * (c / 64 + 1)) (omega arith) (omega arith) (λ d lo hi. not_set_lem d lo hi (ap (λ (w : ℕ). digit w (d - c)) z ∙ digit_zero (d - c))))

    -- or its lowest set digit, which is one of the word, is the first
    short_of : get_or ws (c / 64) 0 < 2 ^ 64 → 0 < x → count_trailing_zeros 64 x < 64 - c % 64
    short_of fits pos =
        let width : 64 ≡ 64 - c % 64 + c % 64 = omega arith in
        let small : x < 2 ^ (64 - c % 64)
        = subst (λ (y : ℕ). y < 2 ^ (64 - c % 64)) (sym is) (shr_lt (64 - c % 64) (c % 64) (subst (λ (e : ℕ). get_or ws (c / 64) 0 < 2 ^ e) width fits)) in
        trailing_short (64 - c % 64) 64 x (omega arith) pos small

    pub from_set : get_or ws (c / 64) 0 < 2 ^ 64 → 0 < x → c + count_trailing_zeros 64 x ≡ first_from ws c
    from_set fits pos =
        let short : count_trailing_zeros 64 x < 64 - c % 64 = short_of fits pos in
        let one : digit x (count_trailing_zeros 64 x) ≡ 1 = trailing_set 64 x (omega (arith, short)) in
        let set : marks ws (c + count_trailing_zeros 64 x) ≡ true
        = shifted c (count_trailing_zeros 64 x) (omega (arith, short))
        ∙ ap (λ (w : ℕ). eqb (digit w (count_trailing_zeros 64 x)) 1) (sym is) ∙ ap (λ (n : ℕ). eqb n 1) one in
        let within : c + count_trailing_zeros 64 x < 2048 = omega (arith, short, inside) in
        sym
        (from_skip c (c + count_trailing_zeros 64 x) (omega arith) (omega (arith, within))
        (λ d lo hi. not_set_lem d lo (omega (arith, short, hi)) (trailing_below 64 x (d - c) (omega (arith, lo, hi)))) ∙ from_here (c + count_trailing_zeros 64 x) within set)

    -- none is set from c on where none is in the rest of its word and none after it
    pub from_word : get_or ws (c / 64) 0 < 2 ^ 64 → eqb (first_from ws c) 2048 ≡ (eqb x 0 && eqb (first_from ws (64 * (c / 64 + 1))) 2048)
    from_word fits = go (eqb x 0) refl
      where
        go : (t : Bool) → eqb x 0 ≡ t → eqb (first_from ws c) 2048 ≡ (t && eqb (first_from ws (64 * (c / 64 + 1))) 2048)
        go true e = ap (λ (r : ℕ). eqb r 2048) (sym (from_zero (eqb-true x 0 e)))
        go false e =
            let n = eqb-false x 0 e in
            let pos : 0 < x = omega (arith, n) in
            ne_eqb (first_from ws c) 2048 (λ (q : first_from ws c ≡ 2048). omega (arith, q, from_set fits pos, short_of fits pos, inside))

  -- a whole word is its word shifted by 0
  pub whole : (j : ℕ) → get_or ws j 0 ≡ get_or ws (64 * j / 64) 0 / 2 ^ (64 * j % 64)
  whole j =
      let a : 64 * j / 64 ≡ j = omega arith in
      let b : 64 * j % 64 ≡ 0 = omega arith in
      rw (a, b) (omega arith)

-- ---- what the first is

pub data First (ws : List ℕ) (a r : ℕ) : Type 0 where
  found : a ≤ r → r < 2048 → marks ws r ≡ true → None ws a r → First ws a r
  empty : r ≡ 2048 → None ws a 2048 → First ws a r

one_more : (ws : List ℕ) (a b : ℕ) → marks ws a ≡ false → None ws (a + 1) b → None ws a b
one_more ws a b e off c x y = go (eqb c a) refl
  where
    go : (t : Bool) → eqb c a ≡ t → marks ws c ≡ false
    go true q = ap (marks ws) (eqb-true c a q) ∙ e
    go false q = off c (let n = eqb-false c a q in omega (arith, n, x)) y

first_in_lem : (ws : List ℕ) (n a : ℕ) → n ≡ 2048 - a → First ws a (first_in ws n a)
unfolding first_in pick
first_in_lem ws zero a h = empty refl (λ c x y. absurd (not-le_of_lt y (omega (arith, h, x))))
first_in_lem ws (suc n) a h = go (marks ws a) refl (first_in_lem ws n (a + 1) (omega arith))
  where
    go : (t : Bool) → marks ws a ≡ t → First ws (a + 1) (first_in ws n (a + 1)) → First ws a (pick t a (first_in ws n (a + 1)))
    go true e f = found (omega arith) (omega arith) e (λ c x y. absurd (not-le_of_lt y x))
    go false e (found lo hi m off) = found (omega (arith, lo)) hi m (one_more ws a _ e off)
    go false e (empty q off) = empty q (one_more ws a 2048 e off)

pub first_of : (ws : List ℕ) (a : ℕ) → First ws a (first_from ws a)
first_of ws a = first_in_lem ws (2048 - a) a refl

-- ---- the one chosen

pub data Chosen (ws : List ℕ) (cursor r : ℕ) : Type 0 where
  ahead : cursor ≤ r → r < 2048 → marks ws r ≡ true → ((c : ℕ) → cursor ≤ c → c < r → marks ws c ≡ false) → Chosen ws cursor r
  round : r < cursor → marks ws r ≡ true → ((c : ℕ) → cursor ≤ c → c < 2048 → marks ws c ≡ false) → ((c : ℕ) → c < r → marks ws c ≡ false) → Chosen ws cursor r
  none : r ≡ 2048 → ((c : ℕ) → c < 2048 → marks ws c ≡ false) → Chosen ws cursor r

-- what is found from the start, where nothing is from the cursor on
going_round : (ws : List ℕ) (cursor r : ℕ) → None ws cursor 2048 → First ws 0 r → Chosen ws cursor r
going_round ws cursor r off (empty e all) = none e (λ c. all c zero-le)
going_round ws cursor r off (found lo hi m below) = go (ltb r cursor) refl
  where
    go : (t : Bool) → ltb r cursor ≡ t → Chosen ws cursor r
    go true h = round (ltb-true r cursor h) m off (λ c. below c zero-le)
    go false h = absurd (true≢false (sym m ∙ off r (ltb-false r cursor h) hi))

pub chosen_of_lem : (ws : List ℕ) (cursor : ℕ) → Chosen ws cursor (chosen_of ws cursor)
unfolding chosen_of
chosen_of_lem ws cursor = go (first_of ws cursor)
  where
    go : First ws cursor (first_from ws cursor) → Chosen ws cursor (pick (ltb (first_from ws cursor) 2048) (first_from ws cursor) (first_from ws 0))
    go (found lo hi m off) = rw (pick_true (first_from ws cursor) (first_from ws 0) (lt-ltb (first_from ws cursor) 2048 hi)) (ahead lo hi m off)
    go (empty e off) =
        rw (pick_false (first_from ws cursor) (first_from ws 0) (le-ltb (first_from ws cursor) 2048 (omega (arith, e)))) (going_round ws cursor (first_from ws 0) off (first_of ws 0))
