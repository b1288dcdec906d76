-- A file made in a vacant slot with a free chunk: views and layout agree after it. Assumes nothing.
use Rattle.std.specs.Prelude.{Ok}
use mathlib.Core.Path.{◌≡◌, refl, ap, sym, ◌∙◌}
use mathlib.Core.Logic.{◌≢◌, inr}
use mathlib.Core.Bool.{false}
use mathlib.Core.List.{List, [], ◌∷◌}
use Prim.Native.Nat.{ℕ, ◌≤◌, ◌<◌}
use native.Mathlib.Omega.{arith}
use lib.ListN.{length}
use Rattle.le.specs.Tally.{tally}
use Rattle.table.specs.declared.Link.{Link}
use Rattle.table.specs.declared.LinkAt.TheVariants as link
use Rattle.table.specs.Table.{links_of}
use Rattle.layout.specs.Views.{vacant, named, stored, Disk}
use Rattle.layout.specs.Segments.{Segment, segment_at, is_of, Good}
use Rattle.layout.specs.Changes.{replaced, Created}
use Rattle.layout.proofs.Facts.{case, vacant≢named, named≢broken, same_name, same_id, same_link, in_table, replaced_here, replaced_other, last_link, not_free}
use Rattle.layout.proofs.Tallies.{counts_one}

module _ (D E : Disk) (G : ℕ → List Segment) (s c : ℕ) (name : List ℕ) (d : Good D G) (s< : s < 64) (unnamed : D.entry s ≡ vacant)
    (nobody : (t : ℕ) (m : List ℕ) (k : ℕ) → t < 64 → D.entry t ≡ named m k → m ≢ name) (c< : c < D.chunks) (unused : D.link c ≡ Ok link.Free)
    (w : Created D E s c name) where
  abbrev new : List Segment
  new = (record { chunk = c; payloads = [] }) ∷ []

  abbrev added : Link
  added = record { slot = s; position = 0; partial = false; records = 0 }

  abbrev H : ℕ → List Segment
  H = replaced G s new

  mine : H s ≡ new
  mine = replaced_here G s new

  others : (t : ℕ) → t ≢ s → H t ≡ G t
  others = replaced_other G s new

  N : E.chunks ≡ D.chunks
  N = w.shape.chunks

  Z : E.size ≡ D.size
  Z = w.shape.size

  -- a place of the new layout is the new file's, or an old one
  which : {P : Type 0} (t q : ℕ) → q < length (H t) → (t ≡ s → q ≡ 0 → P) → (t ≢ s → q < length (G t) → P) → P
  which t q h f g = case t s
      (λ a. f a (let z : length (H t) ≡ 1 = rw (a, mine) refl in omega (arith, h, z)))
      (λ a. g a (let z : length (H t) ≡ length (G t) = ap length (others t a) in omega (arith, h, z)))

  -- an entry is the new one, or an old one with a smaller id
  entry_of : {P : Type 0} (t : ℕ) (m : List ℕ) (k : ℕ) → t < 64 → E.entry t ≡ named m k → (t ≡ s → m ≡ name → k ≡ D.next → P)
      → (t ≢ s → D.entry t ≡ named m k → k < D.next → P) → P
  entry_of t m k a b x y = case t s
      (λ z. let e : E.entry t ≡ named name D.next = rw z w.entry in x z (same_name b e) (same_id b e))
      (λ z. let e : D.entry t ≡ named m k = sym (w.entries t a z) ∙ b in y z e (d.older t m k a e))

  none_yet : length (G s) ≡ 0
  none_yet = ap length (d.free s s< unnamed)

  no_owner : (b : ℕ) (l : Link) → b < D.chunks → D.link b ≡ Ok (link.Linked l) → l.slot ≢ s
  no_owner b l h x z =
      let o = d.owned b l h x in
      let k : length (G l.slot) ≡ 0 = rw z none_yet in
      absurd (omega (arith, o.in_file, k))

  counts : (t : ℕ) → t < 64 → tally (λ b. is_of t (E.link b)) D.chunks ≡ length (H t)
  counts = counts_one D E G H s c added d c< unused w.added refl (λ t b h a. ap (is_of t) (w.links b (in_table h) a)) (rw (mine, none_yet)) others

  creates : Good E H
  creates = record {
    whole = λ t a b. case t s
        (λ x. named≢broken {n = name} {i = D.next} (rw x w.entry) b)
        (λ x. d.whole t a (sym (w.entries t a x) ∙ b));
    free = λ t a b. case t s
        (λ x. absurd (vacant≢named {n = name} {i = D.next} b (rw x w.entry)))
        (λ x. others t x ∙ d.free t a (sym (w.entries t a x) ∙ b));
    held = λ t m k a b. entry_of t m k a b (λ x y z. rw (x, mine) (omega arith)) (λ x y z. rw (others t x) (d.held t m k a y));
    older = λ t m k a b. rw w.next (entry_of t m k a b (λ x y z. omega (arith, z)) (λ x y z. omega (arith, z)));
    ids = λ t u m o k l a b x y e. entry_of t m k a x
        (λ f g h. entry_of u o l b y (λ f' g' h'. f ∙ sym f') (λ f' g' h'. absurd (omega (arith, e, h, h'))))
        (λ f g h. entry_of u o l b y (λ f' g' h'. absurd (omega (arith, e, h, h'))) (λ f' g' h'. d.ids t u m o k l a b g g' e));
    names = λ t u m o k l a b x y e. entry_of t m k a x
        (λ f g h. entry_of u o l b y (λ f' g' h'. f ∙ sym f') (λ f' g' h'. absurd (nobody u o l b g' (sym e ∙ g))))
        (λ f g h. entry_of u o l b y (λ f' g' h'. absurd (nobody t m k a g (e ∙ g'))) (λ f' g' h'. d.names t u m o k l a b g g' e));
    inside = λ t q a b. rw N (which t q b (λ x y. rw (x, y, mine) c<) (λ x y. rw (others t x) (d.inside t q a y)));
    linked = λ t q a b. rw Z (which t q b
        (λ x y. rw (x, y, mine) (w.added ∙ ap (λ k. Ok (link.Linked k)) (sym (last_link D.size s new 0 refl))))
        (λ x y. rw (others t x) (w.links (segment_at (G t) q).chunk (in_table (d.inside t q a y)) (not_free d unused t q a y) ∙ d.linked t q a y)));
    owned = λ b l x y. let h : b < D.chunks = rw N at x in case b c
        (λ z. let o : l ≡ added = same_link y (rw z w.added) in rw o (record { slot = s<; in_file = rw mine (omega arith); there = rw mine (sym z) }))
        (λ z.
        let k : D.link b ≡ Ok (link.Linked l) = sym (w.links b (in_table h) z) ∙ y in
        let o = d.owned b l h k in
        let e : H l.slot ≡ G l.slot = others l.slot (no_owner b l h k) in
        record { slot = o.slot; in_file = rw e o.in_file; there = rw e o.there });
    either = λ b x. let h : b < D.chunks = rw N at x in case b c
        (λ a. inr (added, rw a w.added))
        (λ a. rw (w.links b (in_table h) a) (d.either b h));
    past = λ b x y. let h : D.chunks ≤ b = rw N at x in let k : b < links_of D.chunks = rw N at y in
        w.links b k (λ z. absurd (omega (arith, h, c<, z))) ∙ d.past b h k;
    counted = λ t a. rw N (counts t a);
    fits = λ t q a b. rw Z (which t q b (λ x y. rw (x, y, mine) (omega arith)) (λ x y. rw (others t x) (d.fits t q a y)));
    written = λ t q j m k a b x y. which t q x
        (λ z z'. absurd (let e : j < 0 = rw (z, z', mine) at y in omega (arith, e)))
        (λ z z'.
        let f : j < length (segment_at (G t) q).payloads = rw (others t z) at y in
        rw (others t z, Z) (w.records (segment_at (G t) q).chunk j (d.inside t q a z') (omega (arith, d.fits t q a z', f)) ∙ d.written t q j m k a (sym (w.entries t a z) ∙ b) z' f));
    spent = λ b j f k y x u m.
        let h : b < D.chunks = rw N at x in
        let g : j < D.size = rw Z at u in
        rw w.next (omega (arith, d.spent b j f k y h g (sym (w.records b j h g) ∙ m)));
    placed = λ b j t k y m f x u e v o.
        let h : b < D.chunks = rw N at x in
        let g : j < D.size = rw Z at u in
        let r : D.rec b j ≡ stored f k y = sym (w.records b j h g) ∙ v in
        entry_of t m f e o
        (λ z z' z''. absurd (omega (arith, d.spent b j f k y h g r, z'')))
        (λ z z' z''. rw (others t z) (d.placed b j t k y m f h g e r z'));
  }

pub create_good : {D E : Disk} {G : ℕ → List Segment} {s c : ℕ} {name : List ℕ} → Good D G → s < 64 → D.entry s ≡ vacant
    → ((t : ℕ) (m : List ℕ) (k : ℕ) → t < 64 → D.entry t ≡ named m k → m ≢ name) → c < D.chunks → D.link c ≡ Ok link.Free → Created D E s c name
    → Good E (replaced G s ((record { chunk = c; payloads = [] }) ∷ []))
create_good {D} {E} {G} {s} {c} {name} d a b e f g w = creates D E G s c name d a b e f g w
