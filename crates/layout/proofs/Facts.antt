-- What equations on views tell, the layout with one file replaced, and what follows from views and layout that agree: a chunk has one place, and no
-- file has more chunks than there are. Assumes nothing.
use Rattle.std.specs.Prelude.{Result, Ok, Err}
use mathlib.Core.Path.{◌≡◌, refl, ap, sym, ◌∙◌}
use mathlib.Core.Logic.{◌≢◌}
use mathlib.Core.Bool.{Bool, true, false, false≢true}
use mathlib.Core.List.{List, [], ◌∷◌, ◌++◌, append_assoc, append-nil}
use Prim.Native.Nat.{ℕ, zero, suc, ◌+◌, ◌<◌}
use native.Mathlib.Omega.{arith}
use lib.ListN.{length, length-set, length-append}
use lib.Dec.{eqb}
use borrow.Author.Tests.{eqb-true, eqb-false, eq-eqb, ne_eqb}
use Rattle.le.specs.Choice.{pick}
use Rattle.le.proofs.Bools.{or_second}
use Rattle.le.proofs.Choices.{pick_keeps, pick_true, pick_false}
use Rattle.medium.specs.declared.Error.{Error}
use Rattle.table.specs.declared.Link.{Link}
use Rattle.table.specs.declared.LinkAt.{LinkAt}
use Rattle.table.specs.declared.LinkAt.TheVariants as link
use Rattle.table.specs.Table.{links_of}
use Rattle.layout.specs.Views.{Entry, vacant, broken, named, Rec, blank, stored, Disk}
use Rattle.layout.specs.Segments.{Segment, segment_at, payloads_of, link_for, is_of, Good}
use Rattle.layout.specs.Changes.{replaced, with_payload, with_segment}

pub case : {P : Type 0} (a b : ℕ) → (a ≡ b → P) → (a ≢ b → P) → P
case {P} a b f g = go (eqb a b) refl
  where
    go : (t : Bool) → eqb a b ≡ t → P
    go true e = f (eqb-true a b e)
    go false e = g (eqb-false a b e)

-- ---- views

pub vacant≢named : {o : Entry} {n : List ℕ} {i : ℕ} → o ≡ vacant → o ≡ named n i → ⊥
vacant≢named p q = let z : ◌≡◌ {A = ℕ} 0 1 = cc in omega arith

pub vacant≢broken : {o : Entry} → o ≡ vacant → o ≡ broken → ⊥
vacant≢broken p q = let z : ◌≡◌ {A = ℕ} 0 1 = cc in omega arith

pub named≢broken : {o : Entry} {n : List ℕ} {i : ℕ} → o ≡ named n i → o ≡ broken → ⊥
named≢broken p q = let z : ◌≡◌ {A = ℕ} 0 1 = cc in omega arith

pub same_name : {o : Entry} {n m : List ℕ} {i j : ℕ} → o ≡ named n i → o ≡ named m j → n ≡ m
same_name p q = cc

pub same_id : {o : Entry} {n m : List ℕ} {i j : ℕ} → o ≡ named n i → o ≡ named m j → i ≡ j
same_id p q = cc

pub blank≢stored : {o : Rec} {f k : ℕ} {x : List ℕ} → o ≡ blank → o ≡ stored f k x → ⊥
blank≢stored p q = let z : ◌≡◌ {A = ℕ} 0 1 = cc in omega arith

pub same_file : {o : Rec} {f g k l : ℕ} {x y : List ℕ} → o ≡ stored f k x → o ≡ stored g l y → f ≡ g
same_file p q = cc

pub same_link : {o : Result LinkAt Error} {l m : Link} → o ≡ Ok (link.Linked l) → o ≡ Ok (link.Linked m) → l ≡ m
same_link p q = cc

pub free≢linked : {o : Result LinkAt Error} {l : Link} → o ≡ Ok link.Free → o ≡ Ok (link.Linked l) → ⊥
free≢linked p q = let z : ◌≡◌ {A = ℕ} 0 1 = cc in omega arith

pub in_table : {c n : ℕ} → c < n → c < links_of n
in_table h = omega arith

-- ---- the layout

pub replaced_here : (G : ℕ → List Segment) (s : ℕ) (g : List Segment) → replaced G s g s ≡ g
unfolding replaced
replaced_here G s g = pick_true g (G s) (eq-eqb s s refl)

pub replaced_other : (G : ℕ → List Segment) (s : ℕ) (g : List Segment) (t : ℕ) → t ≢ s → replaced G s g t ≡ G t
unfolding replaced
replaced_other G s g t n = pick_false g (G t) (ne_eqb t s n)

-- ---- the link of the last chunk, of a full one, and of one left before it was full

pub last_link : (size s : ℕ) (g : List Segment) (p : ℕ) → p + 1 ≡ length g → link_for size s g p ≡ record { slot = s; position = p; partial = false; records = 0 }
unfolding link_for pick
last_link size s g p h = rw (eq-eqb (p + 1) (length g) h)

pub full_link : (size s : ℕ) (g : List Segment) (p : ℕ) → length (segment_at g p).payloads ≡ size → link_for size s g p ≡ record { slot = s; position = p; partial = false; records = 0 }
unfolding link_for
full_link size s g p h = pick_true _ _ (or_second (eqb (p + 1) (length g)) (eqb (length (segment_at g p).payloads) size) (eq-eqb (length (segment_at g p).payloads) size h))

pub partial_link_lem : (size s : ℕ) (g : List Segment) (p : ℕ) → p + 1 ≢ length g → length (segment_at g p).payloads ≢ size
    → link_for size s g p ≡ record { slot = s; position = p; partial = true; records = length (segment_at g p).payloads }
unfolding link_for pick
partial_link_lem size s g p h k = rw (ne_eqb (p + 1) (length g) h, ne_eqb (length (segment_at g p).payloads) size k)

-- slot and position are in it always
pub link_slot : (size s : ℕ) (g : List Segment) (p : ℕ) → (link_for size s g p).slot ≡ s
unfolding link_for
link_slot size s g p = pick_keeps (λ (l : Link). l.slot ≡ s) _ _ _ refl refl

pub link_position : (size s : ℕ) (g : List Segment) (p : ℕ) → (link_for size s g p).position ≡ p
unfolding link_for
link_position size s g p = pick_keeps (λ (l : Link). l.position ≡ p) _ _ _ refl refl

-- it depends on the length, and on the segment's count of payloads
pub same_mark : (size s : ℕ) (g h : List Segment) (p : ℕ) → length g ≡ length h → length (segment_at g p).payloads ≡ length (segment_at h p).payloads
    → link_for size s g p ≡ link_for size s h p
unfolding link_for
same_mark size s g h p a b = rw (a, b)

-- ---- whose link it is

pub is_of_lem : {o : Result LinkAt Error} {l : Link} (s : ℕ) → o ≡ Ok (link.Linked l) → l.slot ≡ s → is_of s o ≡ true
unfolding is_of
is_of_lem {o} {l} s p q = rw p (eq-eqb l.slot s q)

pub not_of : {o : Result LinkAt Error} {l : Link} (s : ℕ) → o ≡ Ok (link.Linked l) → l.slot ≢ s → is_of s o ≡ false
unfolding is_of
not_of {o} {l} s p q = rw p (ne_eqb l.slot s q)

pub free_of_lem : {o : Result LinkAt Error} (s : ℕ) → o ≡ Ok link.Free → is_of s o ≡ false
unfolding is_of
free_of_lem s p = rw p

pub refused_of : {o : Result LinkAt Error} {e : Error} (s : ℕ) → o ≡ Err e → is_of s o ≡ true → ⊥
unfolding is_of
refused_of s p q = false≢true (rw p at q)

-- a link has one slot
pub other_of : {s t : ℕ} (o : Result LinkAt Error) → is_of s o ≡ true → s ≢ t → is_of t o ≡ false
unfolding is_of
other_of (Err e) p n = refl
other_of (Ok link.Past) p n = refl
other_of (Ok link.Free) p n = refl
other_of {s} {t} (Ok (link.Linked l)) p n = ne_eqb l.slot t (λ q. n (sym (eqb-true l.slot s p) ∙ q))

pub past_of : {o : Result LinkAt Error} (s : ℕ) → o ≡ Ok link.Past → is_of s o ≡ false
unfolding is_of
past_of s p = rw p

pub true≢false : {t : Bool} → t ≡ true → t ≡ false → ⊥
true≢false p q = let z : ◌≡◌ {A = ℕ} 0 1 = cc in omega arith

-- ---- what agrees

-- a chunk has one place
pub one_place : {D : Disk} {G : ℕ → List Segment} → Good D G → (s p t q : ℕ) → s < 64 → t < 64 → p < length (G s) → q < length (G t)
    → (segment_at (G s) p).chunk ≡ (segment_at (G t) q).chunk → (s ≡ t) × (p ≡ q)
one_place {D} {G} d s p t q a b c e h =
    let k : link_for D.size s (G s) p ≡ link_for D.size t (G t) q = same_link (d.linked s p a c) (rw h (d.linked t q b e)) in (
      sym (link_slot D.size s (G s) p) ∙ ap (λ (l : Link). l.slot) k ∙ link_slot D.size t (G t) q,
      sym (link_position D.size s (G s) p) ∙ ap (λ (l : Link). l.position) k ∙ link_position D.size t (G t) q,
    )

-- no file has a free chunk
pub not_free : {D : Disk} {G : ℕ → List Segment} {c : ℕ} → Good D G → D.link c ≡ Ok link.Free → (t q : ℕ) → t < 64 → q < length (G t) → (segment_at (G t) q).chunk ≢ c
not_free {D} {G} d unused t q a b h = free≢linked {l = link_for D.size t (G t) q} unused (rw (← h) (d.linked t q a b))

-- the last chunk of a file has no mark
pub last_linked : {D : Disk} {G : ℕ → List Segment} → Good D G → (s p : ℕ) → s < 64 → p + 1 ≡ length (G s)
    → D.link (segment_at (G s) p).chunk ≡ Ok (link.Linked (record { slot = s; position = p; partial = false; records = 0 }))
last_linked {D} {G} d s p a h = d.linked s p a (omega (arith, h)) ∙ ap (λ k. Ok (link.Linked k)) (last_link D.size s (G s) p h)

-- ---- the payloads of a file

pub payloads_append : (g h : List Segment) → payloads_of (g ++ h) ≡ payloads_of g ++ payloads_of h
payloads_append [] h = refl
payloads_append (s ∷ g) h = rw (payloads_append g h) (sym (append_assoc s.payloads (payloads_of g) (payloads_of h)))

pub payloads_segment : (g : List Segment) (c : ℕ) → payloads_of (with_segment g c) ≡ payloads_of g
payloads_segment g c = payloads_append g ((record { chunk = c; payloads = [] }) ∷ []) ∙ append-nil (payloads_of g)

pub payloads_payload : (g : List Segment) (p : ℕ) (x : List ℕ) → p + 1 ≡ length g → payloads_of (with_payload g p x) ≡ payloads_of g ++ (x ∷ [])
payloads_payload [] p x h = absurd (omega arith)
payloads_payload (s ∷ []) zero x h = append-nil (s.payloads ++ (x ∷ [])) ∙ ap (λ (l : List (List ℕ)). l ++ (x ∷ [])) (sym (append-nil s.payloads))
payloads_payload (s ∷ r ∷ g) zero x h = absurd (omega arith)
payloads_payload (s ∷ g) (suc p) x h = ap (λ (l : List (List ℕ)). s.payloads ++ l) (payloads_payload g p x (omega arith)) ∙ sym (append_assoc s.payloads (payloads_of g) (x ∷ []))

pub length_payload : (g : List Segment) (p : ℕ) (x : List ℕ) → length (with_payload g p x) ≡ length g
length_payload g p x = length-set g p (record { chunk = (segment_at g p).chunk; payloads = (segment_at g p).payloads ++ (x ∷ []) })

pub length_segment : (g : List Segment) (c : ℕ) → length (with_segment g c) ≡ length g + 1
length_segment g c = length-append g ((record { chunk = c; payloads = [] }) ∷ [])
