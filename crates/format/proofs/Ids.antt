-- The id of a new store: the turns of its search, and that it is free and fits 64 bits. Assumes nothing.
use mathlib.Core.Path.{◌≡◌, refl, ◌∙◌}
use mathlib.Core.Bool.{Bool, true, false, not, ◌&&◌, ◌||◌}
use mathlib.Core.Logic.{◌⊎◌, inl, inr, ⊎_elim}
use Prim.Native.Nat.{ℕ, zero, suc, ◌+◌, ◌-◌, ◌/◌, ◌^◌, ◌≤◌, ◌<◌}
use native.Mathlib.Nat.{mod-lt, div-le_self, lt_of_le_of_lt}
use native.Mathlib.Omega.{arith}
use borrow.Author.Tests.{eqb-true, eqb-false, not-true, not-false}
use lib.Bits.{bit_xor, xor_lt}
use lib.Dec.{eqb, lit<}
use lib.Pow.{pow_pos}
use Rattle.le.specs.Choice.{pick}
use Rattle.le.proofs.Choices.{pick_keeps, pick_keeps_by}
use Rattle.le.proofs.Bools.{and_true, or_false}
use Rattle.mix.specs.SplitMix.{folded, stage, split_mix}
use Rattle.medium.specs.declared.Medium.{Medium}
use Rattle.handles.specs.declared.Header.{Header}
use Rattle.header.specs.declared.codec.Decoded.{Decoded}
use Rattle.header.specs.declared.answers.Copies.{Copies}
use Rattle.header.specs.Header.{ours}
use Rattle.header.specs.Copies.{is_ours, head_a, head_b, both_of}
use Rattle.format.specs.Format.{has_id, spare_of, id_from, id_for}

-- ---- the turns of the search: t says whether a copy has x, and r is what the search gives

module _ (c : Copies) (x k : ℕ) {t : Bool} {r : ℕ} (asked : t ≡ has_id c x) (h : k < 4) (inv : id_from c (4 - k) x ≡ r) where
  turn : pick (eqb x 0 || t) (id_from c (4 - (k + 1)) (split_mix x)) x ≡ r
  unfolding id_from
  turn = let n : 4 - k ≡ suc (4 - (k + 1)) = omega arith in rw asked (rw n at inv)

  pub id_good : not (eqb x 0 || t) ≡ true → x ≡ r
  unfolding pick
  id_good e = rw (not-true (eqb x 0 || t) e) at turn

  pub id_bad : {y : ℕ} → not (eqb x 0 || t) ≡ false → y ≡ split_mix x → id_from c (4 - (k + 1)) y ≡ r
  unfolding pick
  id_bad e ey = rw ey (rw (not-false (eqb x 0 || t) e) at turn)

pub id_last : (c : Copies) (x k : ℕ) {s r : ℕ} → s ≡ spare_of c → 4 ≤ k → id_from c (4 - k) x ≡ r → s ≡ r
unfolding id_from
id_last c x k es h inv = let n : 4 - k ≡ 0 = omega arith in es ∙ rw n at inv

-- ---- the id is free

or_true : (p q : Bool) → (p || q) ≡ true → (p ≡ true) ⊎ (q ≡ true)
or_true true q e = inl refl
or_true false q e = inr e

none : (p q : Bool) → (p ≡ true → ⊥) → (q ≡ true → ⊥) → (p || q) ≡ false
none true q f g = absurd (f refl)
none false true f g = absurd (g refl)
none false false f g = refl

-- two ids have at most two of the numbers 1, 2, 3
module _ (a b : Bool) (x y : ℕ) where
  abbrev has : ℕ → Bool
  has n = (a && eqb x n) || (b && eqb y n)

  had : (n : ℕ) → has n ≡ true → (x ≡ n) ⊎ (y ≡ n)
  had n e = ⊎_elim (λ p. inl (eqb-true x n (and_true a (eqb x n) p).1)) (λ p. inr (eqb-true y n (and_true b (eqb y n) p).1)) (or_true (a && eqb x n) (b && eqb y n) e)

  third : has 1 ≡ true → has 2 ≡ true → has 3 ≡ false
  third e f =
      none (a && eqb x 3) (b && eqb y 3)
      (λ p. let z : x ≡ 3 = eqb-true x 3 (and_true a (eqb x 3) p).1 in ⊎_elim (λ u. omega arith) (λ u. ⊎_elim (λ v. omega arith) (λ v. omega arith) (had 2 f)) (had 1 e))
      (λ p. let z : y ≡ 3 = eqb-true y 3 (and_true b (eqb y 3) p).1 in ⊎_elim (λ u. ⊎_elim (λ v. omega arith) (λ v. omega arith) (had 2 f)) (λ u. omega arith) (had 1 e))

-- not 0, and no valid copy has it
abbrev pub Free : Copies → ℕ → Type 0
Free c x = (x ≡ 0 → ⊥) × (has_id c x ≡ false)

spare_free : (c : Copies) → Free c (spare_of c)
unfolding spare_of has_id
spare_free c =
    pick_keeps_by (Free c) (has_id c 1) _ _
    (λ one. pick_keeps_by (Free c) (has_id c 2) _ _ (λ two. (λ e. omega arith, three one two)) (λ two. (λ e. omega arith, two)))
    (λ one. (λ e. omega arith, one))
  where
    three : has_id c 1 ≡ true → has_id c 2 ≡ true → has_id c 3 ≡ false
    three = third (is_ours c.a) (is_ours c.b) (head_a c).id (head_b c).id

from_free : (c : Copies) (n x : ℕ) → Free c (id_from c n x)
unfolding id_from
from_free c zero x = spare_free c
from_free c (suc n) x =
    pick_keeps_by (Free c) (eqb x 0 || has_id c x) _ _ (λ _. from_free c n (split_mix x))
    (λ t. let f = or_false (eqb x 0) (has_id c x) t in (eqb-false x 0 f.0, f.1))

pub id_fresh : (c : Copies) (m : Medium) (seed : ℕ) → Free c (id_for c m seed)
unfolding id_for
id_fresh c m seed = from_free c 4 (split_mix (bit_xor seed m.entropy))

-- so neither valid copy has it
pub neither_has : (a b : Decoded) (x : ℕ) → has_id (both_of a b) x ≡ false → ((h : Header) → a ≡ ours h → h.id ≡ x → ⊥) × ((h : Header) → b ≡ ours h → h.id ≡ x → ⊥)
unfolding has_id
neither_has a b x e =
    let f = or_false (is_ours a.kind && eqb a.head.id x) (is_ours b.kind && eqb b.head.id x) e in
    (λ h p. eqb-false h.id x (rw p at f.0), λ h p. eqb-false h.id x (rw p at f.1))

-- ---- and fits 64 bits

folded_lt : (k x : ℕ) → x < 2 ^ 64 → folded k x < 2 ^ 64
unfolding folded
folded_lt k x h = xor_lt 64 x (x / 2 ^ k) h (lt_of_le_of_lt (div-le_self x (2 ^ k)) h)

pub mix_lt : (x : ℕ) → split_mix x < 2 ^ 64
unfolding split_mix stage
mix_lt x = folded_lt 31 _ (mod-lt _ (pow_pos 64))

from_lt : (c : Copies) (n x : ℕ) → x < 2 ^ 64 → id_from c n x < 2 ^ 64
unfolding id_from spare_of
from_lt c zero x h = pick_keeps (λ (k : ℕ). k < 2 ^ 64) (has_id c 1) _ _ (pick_keeps (λ (k : ℕ). k < 2 ^ 64) (has_id c 2) _ _ (lit< tt) (lit< tt)) (lit< tt)
from_lt c (suc n) x h = pick_keeps (λ (k : ℕ). k < 2 ^ 64) (eqb x 0 || has_id c x) _ _ (from_lt c n (split_mix x) (mix_lt x)) h

pub id_lt : (c : Copies) (m : Medium) (seed : ℕ) → id_for c m seed < 2 ^ 64
unfolding id_for
id_lt c m seed = from_lt c 4 (split_mix (bit_xor seed m.entropy)) (mix_lt (bit_xor seed m.entropy))
