-- The file of a slot removed: views and layout agree after it. Assumes nothing.
use Rattle.std.specs.Prelude.{Ok}
use mathlib.Core.Path.{◌≡◌, refl, ap, sym, ◌∙◌}
use mathlib.Core.Logic.{◌≢◌, ◌⊎◌, inl, inr}
use mathlib.Core.Bool.{Bool, true, false}
use mathlib.Core.List.{List, []}
use Prim.Native.Nat.{ℕ, ◌≤◌, ◌<◌}
use native.Mathlib.Omega.{arith}
use lib.ListN.{length}
use Rattle.le.specs.Tally.{tally}
use Rattle.le.proofs.Tallies.{tally_ext, tally_none}
use Rattle.table.specs.declared.Link.{Link}
use Rattle.table.specs.declared.LinkAt.TheVariants as link
use Rattle.table.specs.Table.{links_of}
use Rattle.layout.specs.Views.{named, Disk}
use Rattle.layout.specs.Segments.{Segment, segment_at, is_of, Good}
use Rattle.layout.specs.Changes.{replaced, Removed}
use Rattle.layout.proofs.Facts.{case, vacant≢named, vacant≢broken, free≢linked, past_of, in_table, replaced_here, replaced_other, link_slot, is_of_lem, not_of, free_of_lem, true≢false}

module _ (D E : Disk) (G : ℕ → List Segment) (s : ℕ) (d : Good D G) (s< : s < 64) (w : Removed D E s) where
  abbrev H : ℕ → List Segment
  H = replaced G s []

  mine : H s ≡ []
  mine = replaced_here G s []

  others : (t : ℕ) → t ≢ s → H t ≡ G t
  others = replaced_other G s []

  N : E.chunks ≡ D.chunks
  N = w.shape.chunks

  Z : E.size ≡ D.size
  Z = w.shape.size

  live : {P : Type 0} (t : ℕ) (m : List ℕ) (k : ℕ) → t < 64 → E.entry t ≡ named m k → (t ≢ s → D.entry t ≡ named m k → P) → P
  live t m k a b x = case t s (λ z. absurd (vacant≢named (rw z w.entry) b)) (λ z. x z (sym (w.entries t a z) ∙ b))

  place : {P : Type 0} (t q : ℕ) → q < length (H t) → (t ≢ s → q < length (G t) → P) → P
  place t q h x = case t s
      (λ a. absurd (let z : length (H t) ≡ 0 = rw (a, mine) refl in omega (arith, h, z)))
      (λ a. x a (let z : length (H t) ≡ length (G t) = ap length (others t a) in omega (arith, h, z)))

  -- a link of slot s is freed, any other is as before
  which : {P : Type 0} (b : ℕ) → b < D.chunks → (is_of s (D.link b) ≡ true → E.link b ≡ Ok link.Free → P)
      → (is_of s (D.link b) ≡ false → E.link b ≡ D.link b → P) → P
  which {P} b h f g = go (is_of s (D.link b)) refl
    where
      go : (t : Bool) → is_of s (D.link b) ≡ t → P
      go true e = f e (w.cleared b h e)
      go false e = g e (w.links b (in_table h) e)

  kept : (t q : ℕ) → t < 64 → t ≢ s → q < length (G t) → E.link (segment_at (G t) q).chunk ≡ D.link (segment_at (G t) q).chunk
  kept t q a b h = w.links (segment_at (G t) q).chunk (in_table (d.inside t q a h)) (not_of s (d.linked t q a h) (λ e. b (sym (link_slot D.size t (G t) q) ∙ e)))

  -- a link that is left is an old one, of another file
  left : {P : Type 0} (b : ℕ) (l : Link) → b < D.chunks → E.link b ≡ Ok (link.Linked l) → (D.link b ≡ Ok (link.Linked l) → l.slot ≢ s → P) → P
  left b l h x f = which b h
      (λ e y. absurd (free≢linked y x))
      (λ e y. let z : D.link b ≡ Ok (link.Linked l) = sym y ∙ x in f z (λ k. true≢false (is_of_lem s z k) e))

  counts : (t : ℕ) → t < 64 → tally (λ b. is_of t (E.link b)) D.chunks ≡ length (H t)
  counts t a = case t s
      (λ z. tally_none (λ b. is_of t (E.link b)) D.chunks (λ b h. which b h (λ e y. free_of_lem t y) (λ e y. rw (y, z) e)) ∙ rw (z, mine) refl)
      (λ z. tally_ext (λ b. is_of t (E.link b)) (λ b. is_of t (D.link b)) D.chunks
      (λ b h. which b h (λ e y. free_of_lem t y ∙ sym (one_owner t b h z e)) (λ e y. ap (is_of t) y)) ∙ (d.counted t a ∙ sym (ap length (others t z))))
    where
      one_owner : (t b : ℕ) → b < D.chunks → t ≢ s → is_of s (D.link b) ≡ true → is_of t (D.link b) ≡ false
      one_owner t b h z e = of_either (d.either b h)
        where
          of_either : (D.link b ≡ Ok link.Free) ⊎ ((l : Link) × (D.link b ≡ Ok (link.Linked l))) → is_of t (D.link b) ≡ false
          of_either (inl f) = free_of_lem t f
          of_either (inr (l, f)) = case l.slot s
              (λ k. not_of t f (λ g. z (sym g ∙ k)))
              (λ k. absurd (true≢false e (not_of s f k)))

  removes : Good E H
  removes = record {
    whole = λ t a b. case t s (λ x. vacant≢broken (rw x w.entry) b) (λ x. d.whole t a (sym (w.entries t a x) ∙ b));
    free = λ t a b. case t s (λ x. rw x mine) (λ x. others t x ∙ d.free t a (sym (w.entries t a x) ∙ b));
    held = λ t m k a b. live t m k a b (λ x y. rw (others t x) (d.held t m k a y));
    older = λ t m k a b. rw w.next (live t m k a b (λ x y. d.older t m k a y));
    ids = λ t u m o k l a b x y e. live t m k a x (λ f g. live u o l b y (λ f' g'. d.ids t u m o k l a b g g' e));
    names = λ t u m o k l a b x y e. live t m k a x (λ f g. live u o l b y (λ f' g'. d.names t u m o k l a b g g' e));
    inside = λ t q a b. rw N (place t q b (λ x y. rw (others t x) (d.inside t q a y)));
    linked = λ t q a b. rw Z (place t q b (λ x y. rw (others t x) (kept t q a x y ∙ d.linked t q a y)));
    owned = λ b l x y. let h : b < D.chunks = rw N at x in left b l h y (λ k f.
        let o = d.owned b l h k in
        record { slot = o.slot; in_file = rw (others l.slot f) o.in_file; there = rw (others l.slot f) o.there });
    either = λ b x. let h : b < D.chunks = rw N at x in which b h (λ e y. inl y) (λ e y. rw y (d.either b h));
    past = λ b x y.
        let h : D.chunks ≤ b = rw N at x in
        let k : b < links_of D.chunks = rw N at y in
        w.links b k (past_of s (d.past b h k)) ∙ d.past b h k;
    counted = λ t a. rw N (counts t a);
    fits = λ t q a b. rw Z (place t q b (λ x y. rw (others t x) (d.fits t q a y)));
    written = λ t q j m k a b x y. live t m k a b (λ z z'.
        let u : q < length (G t) = rw (others t z) at x in
        let f : j < length (segment_at (G t) q).payloads = rw (others t z) at y in
        rw (others t z, Z) (w.records (segment_at (G t) q).chunk j (d.inside t q a u) (omega (arith, d.fits t q a u, f)) ∙ d.written t q j m k a z' u f));
    spent = λ b j f k y x u m.
        let h : b < D.chunks = rw N at x in
        let g : j < D.size = rw Z at u in
        rw w.next (d.spent b j f k y h g (sym (w.records b j h g) ∙ m));
    placed = λ b j t k y m f x u e v o.
        let h : b < D.chunks = rw N at x in
        let g : j < D.size = rw Z at u in
        live t m f e o (λ z z'. rw (others t z) (d.placed b j t k y m f h g e (sym (w.records b j h g) ∙ v) z'));
  }

pub remove_good : {D E : Disk} {G : ℕ → List Segment} {s : ℕ} → Good D G → s < 64 → Removed D E s → Good E (replaced G s [])
remove_good {D} {E} {G} {s} d a w = removes D E G s d a w
