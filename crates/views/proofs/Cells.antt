-- A part of an edited sector, over its offset and width: entries and links are the instances. Assumes nothing.
use mathlib.Core.Path.{◌≡◌, refl, sym}
use mathlib.Core.Bool.{Bool, true, false, true≢false}
use mathlib.Core.List.{List}
use Prim.Native.Nat.{ℕ, ◌+◌, ◌<◌, ◌≤◌}
use borrow.Author.Tests.{eqb-true, eq-eqb, ltb-true, ltb-false}
use lib.Dec.{eqb, leb, ltb}
use lib.ListN.{length}
use Rattle.le.specs.Choice.{pick}
use Rattle.le.specs.Part.{part, over}
use Rattle.le.proofs.Choices.{pick_keeps_by, pick_true}
use Rattle.le.proofs.Parts.{part_over, part_before, part_after, length_over}
use Rattle.le.proofs.Bools.{or_false}
use Rattle.plan.specs.declared.Edit.{Edit}
use Rattle.plan.specs.declared.Edit.TheVariants.{Format, Create, Extend, Remove}
use Rattle.plan.specs.Edit.{changes_of, entry_put, link_put, slot_cleared, edit_of, slot_sector, link_sector}

-- bytes put at o of sector a, as sector k has them
module _ (a o : ℕ) (bytes : List ℕ) (k : ℕ) (s : List ℕ) (room : o + length bytes ≤ length s) where
  -- there they stand
  pub put_there : (n : ℕ) → length bytes ≡ n → k ≡ a → part o n (pick (eqb k a) (over o bytes s) s) ≡ bytes
  put_there n size here = rw (pick_true (over o bytes s) s (eq-eqb k a here), ← size) (part_over o bytes s room)

  -- and a part that does not meet them is as it was
  pub put_apart : (p n : ℕ) → (k ≡ a → o < p + n → o + length bytes ≤ p) → part p n (pick (eqb k a) (over o bytes s) s) ≡ part p n s
  put_apart p n apart =
      pick_keeps_by (λ (x : List ℕ). part p n x ≡ part p n s) (eqb k a) (over o bytes s) s
      (λ e. side (eqb-true k a e) (ltb o (p + n)) refl) (λ e. refl)
    where
      side : k ≡ a → (b : Bool) → ltb o (p + n) ≡ b → part p n (over o bytes s) ≡ part p n s
      side e true q = part_after o bytes s room p n (apart e (ltb-true o (p + n) q))
      side e false q = part_before o bytes s room p n (ltb-false o (p + n) q)

  pub put_size : length (pick (eqb k a) (over o bytes s) s) ≡ length s
  put_size = pick_keeps_by (λ (x : List ℕ). length x ≡ length s) (eqb k a) (over o bytes s) s (λ e. length_over o bytes s room) (λ e. refl)

-- ---- a sector that the edit does not change

left_alone : (e : Edit) (name : List ℕ) (k : ℕ) (s : List ℕ) → changes_of e k ≡ false → edit_of e name k s ≡ s
unfolding changes_of edit_of entry_put link_put slot_cleared pick
left_alone Format name k s q = absurd (true≢false q)
left_alone (Create slot id chunk) name k s q =
    let n = or_false (eqb k (slot_sector slot)) (eqb k (link_sector chunk)) q in
    rw (n.0, n.1)
left_alone (Extend slot position next last false records) name k s q = rw (or_false (eqb k (link_sector next)) false q).0
left_alone (Extend slot position next last true records) name k s q =
    let n = or_false (eqb k (link_sector next)) (eqb k (link_sector last)) q in
    rw (n.0, n.1)
left_alone (Remove slot) name k s q =
    let n = or_false (eqb k (slot_sector slot)) (leb 8 k) q in
    rw (n.0, n.1)

-- so one may ask for the edit everywhere
pub edit_where : (e : Edit) (name : List ℕ) (k : ℕ) (s : List ℕ) → pick (changes_of e k) (edit_of e name k s) s ≡ edit_of e name k s
edit_where e name k s =
    pick_keeps_by (λ (x : List ℕ). x ≡ edit_of e name k s) (changes_of e k) (edit_of e name k s) s (λ q. refl) (λ q. sym (left_alone e name k s q))
