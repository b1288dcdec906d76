-- The parts of the finer book and the layout through each change of the views: nothing, a record, a chunk more, a file made, a file gone, a fresh store.
-- Assumes nothing.
use Prim.Native.Nat.{ℕ, zero, suc, ◌+◌, ◌<◌}
use mathlib.Core.Path.{◌≡◌, refl, ap, sym, ◌∙◌}
use mathlib.Core.Logic.{◌≢◌}
use mathlib.Core.List.{List, [], ◌∷◌, ◌++◌}
use native.Mathlib.Omega.{arith}
use borrow.Author.Tests.{eq-eqb, ne_eqb}
use lib.ListN.{length}
use Rattle.le.proofs.Choices.{pick_true, pick_false}
use Rattle.table.specs.declared.Link.{Link}
use Rattle.layout.specs.Views.{named, Disk}
use Rattle.layout.specs.Segments.{Segment, payloads_of, Good}
use Rattle.layout.specs.Changes.{replaced, with_payload, with_segment, SameEntries, Unchanged, Recorded, Extended, Created, Removed, Fresh}
use Rattle.layout.proofs.Facts.{case, vacant≢named, same_id, replaced_here, replaced_other}
use Rattle.reading.specs.Below.{Parts, parts_of}
use Rattle.power.proofs.Fine.{on_part, first_part, more_part, last_part}

-- each named slot's file has the parts that its id has
pub record Parted (D : Disk) (G : ℕ → List Segment) (f : ℕ → Parts) : Type 0 where
  pub hold : (s : ℕ) (name : List ℕ) (id : ℕ) → s < 64 → D.entry s ≡ named name id → parts_of (G s) ≡ f id

-- ---- one id's parts

pub part_here : (id : ℕ) (u : Parts → Parts) (f : ℕ → Parts) → on_part id u f id ≡ u (f id)
unfolding on_part
part_here id u f = pick_true (u (f id)) (f id) (eq-eqb id id refl)

pub part_other : (id : ℕ) (u : Parts → Parts) (f : ℕ → Parts) (i : ℕ) → i ≢ id → on_part id u f i ≡ f i
unfolding on_part
part_other id u f i n = pick_false (u (f i)) (f i) (ne_eqb i id n)

parts_more : (g : List Segment) (c : ℕ) → parts_of (with_segment g c) ≡ more_part (parts_of g)
parts_more [] c = refl
parts_more (s ∷ g) c = ap (λ (ps : Parts). s.payloads ∷ ps) (parts_more g c)

parts_last : (g : List Segment) (p : ℕ) (x : List ℕ) → p + 1 ≡ length g → parts_of (with_payload g p x) ≡ last_part x (parts_of g)
unfolding last_part
parts_last [] p x h = absurd (omega arith)
parts_last (s ∷ []) zero x h = refl
parts_last (s ∷ []) (suc p) x h = absurd (omega arith)
parts_last (s ∷ r ∷ g) zero x h = absurd (omega arith)
parts_last (s ∷ r ∷ g) (suc p) x h = ap (λ (ps : Parts). s.payloads ∷ ps) (parts_last (r ∷ g) p x (omega arith))

-- ---- the changes

pub parted_same : {D E : Disk} {G : ℕ → List Segment} {f : ℕ → Parts} → Parted D G f → Unchanged D E → Parted E G f
parted_same p w = record { hold = λ s name id h e. p.hold s name id h (sym (w.entries s h) ∙ e) }

pub parted_fresh : {E : Disk} (f : ℕ → Parts) → Fresh E → Parted E (λ s. []) f
parted_fresh f w = record { hold = λ s name id h e. absurd (vacant≢named (w.entries s h) e) }

module _ {D : Disk} (E : Disk) {G : ℕ → List Segment} {f : ℕ → Parts} (s : ℕ) {n : List ℕ} {id : ℕ} (g : List Segment) (u : Parts → Parts) (d : Good D G)
    (p : Parted D G f) (hs : s < 64) (is : D.entry s ≡ named n id) (w : SameEntries D E) (hit : parts_of g ≡ u (parts_of (G s))) where
  at_slot : (r : ℕ) (m : List ℕ) (i : ℕ) → r < 64 → D.entry r ≡ named m i → parts_of (replaced G s g r) ≡ on_part id u f i
  at_slot r m i h e =
      case r s
      (λ x.
      let k : D.entry r ≡ named n id = rw x is in
      let y : i ≡ id = same_id e k in
      rw (x, y, replaced_here G s g, part_here id u f) (hit ∙ ap u (p.hold s n id hs is)))
      (λ x. rw (replaced_other G s g r x, part_other id u f i (λ y. x (d.ids r s m n i id h hs e is y))) (p.hold r m i h e))

  parted_one : Parted E (replaced G s g) (on_part id u f)
  parted_one = record { hold = λ r m i h e. at_slot r m i h (sym (w r h) ∙ e) }

pub parted_record : {D E : Disk} {G : ℕ → List Segment} {f : ℕ → Parts} {c i id number : ℕ} {n x : List ℕ} (s p : ℕ) → Good D G → Parted D G f → s < 64
    → D.entry s ≡ named n id → p + 1 ≡ length (G s) → Recorded D E c i id number x
    → Parted E (replaced G s (with_payload (G s) p x)) (on_part id (last_part x) f)
parted_record {E = E} {G = G} {x = x} s p d t hs is last w = parted_one E s (with_payload (G s) p x) (last_part x) d t hs is w.entries (parts_last (G s) p x last)

pub parted_extend : {D E : Disk} {G : ℕ → List Segment} {f : ℕ → Parts} {c old id : ℕ} {n : List ℕ} {new mark : Link} (s : ℕ) → Good D G → Parted D G f → s < 64
    → D.entry s ≡ named n id → Extended D E c old new mark → Parted E (replaced G s (with_segment (G s) c)) (on_part id more_part f)
parted_extend {E = E} {G = G} {c = c} s d t hs is w = parted_one E s (with_segment (G s) c) more_part d t hs is w.entries (parts_more (G s) c)

-- the next id is no other file's
module _ {D E : Disk} {G : ℕ → List Segment} {f : ℕ → Parts} {s c : ℕ} {name : List ℕ} (d : Good D G) (p : Parted D G f) (w : Created D E s c name) where
  abbrev first : List Segment
  first = (record { chunk = c; payloads = [] }) ∷ []

  in_slot : (r : ℕ) (m : List ℕ) (i : ℕ) → r < 64 → E.entry r ≡ named m i → parts_of (replaced G s first r) ≡ on_part D.next first_part f i
  in_slot r m i h e =
      case r s
      (λ x.
      let k : E.entry r ≡ named name D.next = rw x w.entry in
      let y : i ≡ D.next = same_id e k in
      rw (x, y, replaced_here G s first, part_here D.next first_part f) refl)
      (λ x.
      let k : D.entry r ≡ named m i = sym (w.entries r h x) ∙ e in
      rw (replaced_other G s first r x, part_other D.next first_part f i (λ y. absurd (omega (arith, y, d.older r m i h k)))) (p.hold r m i h k))

  pub parted_create : Parted E (replaced G s ((record { chunk = c; payloads = [] }) ∷ [])) (on_part D.next first_part f)
  parted_create = record { hold = in_slot }

pub parted_remove : {D E : Disk} {G : ℕ → List Segment} {f : ℕ → Parts} {s : ℕ} → Parted D G f → Removed D E s → Parted E (replaced G s []) f
parted_remove {D} {E} {G} {f} {s} p w =
    record {
      hold = λ r m i h e.
          let x : r ≢ s = λ q. vacant≢named w.entry (ap E.entry (sym q) ∙ e) in
          rw (replaced_other G s [] r x) (p.hold r m i h (sym (w.entries r h x) ∙ e));
    }

-- ---- the book's payloads of a file: those of all its parts

unfoldable pub joined : Parts → List (List ℕ)
joined [] = []
joined (p ∷ ps) = p ++ joined ps

pub joined_payloads : (g : List Segment) → joined (parts_of g) ≡ payloads_of g
unfolding joined
joined_payloads [] = refl
joined_payloads (s ∷ g) = ap (λ (l : List (List ℕ)). s.payloads ++ l) (joined_payloads g)
