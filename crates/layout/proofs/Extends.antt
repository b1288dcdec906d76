-- A chunk linked to the file in slot s after its last one: views and layout agree after it. Assumes nothing.
use Rattle.std.specs.Prelude.{Ok}
use mathlib.Core.Path.{◌≡◌, refl, ap, sym, ◌∙◌}
use mathlib.Core.Logic.{◌≢◌, inr}
use mathlib.Core.Bool.{true, false}
use mathlib.Core.List.{List, [], ◌∷◌}
use Prim.Native.Nat.{ℕ, ◌+◌, ◌≤◌, ◌<◌}
use native.Mathlib.Omega.{arith}
use lib.ListN.{length, get_or-append}
use lib.Seq.{get_or_at}
use Rattle.le.specs.Tally.{tally}
use Rattle.table.specs.declared.Link.{Link}
use Rattle.table.specs.declared.LinkAt.TheVariants as link
use Rattle.table.specs.Table.{links_of}
use Rattle.layout.specs.Views.{named, Disk}
use Rattle.layout.specs.Segments.{Segment, no_segment, segment_at, link_for, is_of, Owned, Good}
use Rattle.layout.specs.Changes.{replaced, with_segment, Extended}
use Rattle.layout.proofs.Facts.{case, vacant≢named, same_link, in_table, replaced_here, replaced_other, last_link, full_link, partial_link_lem, link_slot, link_position, is_of_lem, not_of, not_free, length_segment, one_place}
use Rattle.layout.proofs.Tallies.{counts_one}

-- the segments before the added one
pub old_segment : (g : List Segment) (c q : ℕ) → q < length g → segment_at (with_segment g c) q ≡ segment_at g q
old_segment g c q h = get_or-append g ((record { chunk = c; payloads = [] }) ∷ []) no_segment q h

-- the mark that the last chunk needs once another follows it: none where it is full, else its count of records
pub full_mark : (size s : ℕ) (g : List Segment) (c p : ℕ) → p + 1 ≡ length g → length (segment_at g p).payloads ≡ size
    → link_for size s (with_segment g c) p ≡ record { slot = s; position = p; partial = false; records = 0 }
full_mark size s g c p h k = full_link size s (with_segment g c) p (ap (λ (x : Segment). length x.payloads) (old_segment g c p (omega (arith, h))) ∙ k)

pub partial_mark : (size s : ℕ) (g : List Segment) (c p : ℕ) → p + 1 ≡ length g → length (segment_at g p).payloads ≢ size
    → link_for size s (with_segment g c) p ≡ record { slot = s; position = p; partial = true; records = length (segment_at g p).payloads }
partial_mark size s g c p h k =
    let e : length (segment_at (with_segment g c) p).payloads ≡ length (segment_at g p).payloads = ap (λ (x : Segment). length x.payloads) (old_segment g c p (omega (arith, h))) in
    partial_link_lem size s (with_segment g c) p (λ z. absurd (omega (arith, h, z, length_segment g c))) (λ z. k (sym e ∙ z)) ∙ rw e

module _ (D E : Disk) (G : ℕ → List Segment) (s p c id : ℕ) (n : List ℕ) (d : Good D G) (s< : s < 64) (is : D.entry s ≡ named n id)
    (last : p + 1 ≡ length (G s)) (c< : c < D.chunks) (unused : D.link c ≡ Ok link.Free)
    (w : Extended D E c (segment_at (G s) p).chunk (record { slot = s; position = p + 1; partial = false; records = 0 }) (link_for D.size s (with_segment (G s) c) p)) where
  abbrev H : ℕ → List Segment
  H = replaced G s (with_segment (G s) c)

  abbrev old : ℕ
  old = (segment_at (G s) p).chunk

  abbrev new : Segment
  new = record { chunk = c; payloads = [] }

  abbrev added : Link
  added = record { slot = s; position = p + 1; partial = false; records = 0 }

  mine : H s ≡ with_segment (G s) c
  mine = replaced_here G s (with_segment (G s) c)

  others : (t : ℕ) → t ≢ s → H t ≡ G t
  others = replaced_other G s (with_segment (G s) c)

  N : E.chunks ≡ D.chunks
  N = w.shape.chunks

  Z : E.size ≡ D.size
  Z = w.shape.size

  pl : p < length (G s)
  pl = omega (arith, last)

  len : length (H s) ≡ p + 2
  len = ap length mine ∙ (length_segment (G s) c ∙ omega (arith, last))

  longer : (t : ℕ) → length (G t) ≤ length (H t)
  longer t = case t s (λ a. rw a (omega (arith, len, last))) (λ a. rw (others t a) (omega arith))

  as_before : (t q : ℕ) → q < length (G t) → segment_at (H t) q ≡ segment_at (G t) q
  as_before t q h = case t s
      (λ a. rw a (ap (λ (g : List Segment). segment_at g q) mine ∙ old_segment (G s) c q (rw a at h)))
      (λ a. ap (λ (g : List Segment). segment_at g q) (others t a))

  at_end : segment_at (H s) (p + 1) ≡ new
  at_end = ap (λ (g : List Segment). segment_at g (p + 1)) mine ∙ get_or_at (G s) new [] no_segment (p + 1) (sym last)

  -- a place of the longer file is an old one or the new one
  which : {P : Type 0} (t q : ℕ) → q < length (H t) → (q < length (G t) → P) → (t ≡ s → q ≡ p + 1 → P) → P
  which t q h f g = case t s
      (λ a. case q (p + 1) (g a) (λ b. f (let z : length (H t) ≡ p + 2 = rw a len in let y : length (G t) ≡ p + 1 = rw a (sym last) in omega (arith, h, b, z, y))))
      (λ a. f (let z : length (H t) ≡ length (G t) = ap length (others t a) in omega (arith, h, z)))

  -- the links of the old places
  kept : (t q : ℕ) → t < 64 → q < length (G t) → E.link (segment_at (G t) q).chunk ≡ Ok (link.Linked (link_for D.size t (H t) q))
  kept t q a b = case t s
      (λ x. case q p
      (λ y. rw (x, y, mine) w.marked)
      (λ y. other (λ z z'. y z') (later x y)))
      (λ x. other (λ z. absurd (x z)) (ap (λ (g : List Segment). link_for D.size t g q) (others t x)))
    where
      counts : length (segment_at (H t) q).payloads ≡ length (segment_at (G t) q).payloads
      counts = ap (λ (g : Segment). length g.payloads) (as_before t q b)

      later : t ≡ s → q ≢ p → link_for D.size t (H t) q ≡ link_for D.size t (G t) q
      later x y =
          let k : length (G t) ≡ p + 1 = rw x (sym last) in
          let l : length (H t) ≡ p + 2 = rw x len in
          let u : q + 1 ≢ length (H t) = λ e. absurd (omega (arith, b, k, l, e)) in
          let v : q + 1 ≢ length (G t) = λ e. y (omega (arith, k, e)) in
          case (length (segment_at (G t) q).payloads) D.size
          (λ f. full_link D.size t (H t) q (counts ∙ f) ∙ sym (full_link D.size t (G t) q f))
          (λ f. partial_link_lem D.size t (H t) q u (λ e. f (sym counts ∙ e)) ∙ (rw counts (sym (partial_link_lem D.size t (G t) q v f))))

      other : (t ≡ s → q ≢ p) → link_for D.size t (H t) q ≡ link_for D.size t (G t) q → E.link (segment_at (G t) q).chunk ≡ Ok (link.Linked (link_for D.size t (H t) q))
      other ne m = rw m (w.elsewhere (segment_at (G t) q).chunk (in_table (d.inside t q a b)) (not_free d unused t q a b) (λ z. let o = one_place d t q s p a s< b pl z in ne o.0 o.1) ∙ d.linked t q a b)

  owned_by : (b : ℕ) (l m : Link) → E.link b ≡ Ok (link.Linked l) → E.link b ≡ Ok (link.Linked m) → m.slot < 64 → m.position < length (H m.slot)
      → (segment_at (H m.slot) m.position).chunk ≡ b → Owned E H b l
  owned_by b l m x y a f g = let o : l ≡ m = same_link x y in rw o (record { slot = a; in_file = f; there = g })

  owns : (b : ℕ) (l : Link) → b < D.chunks → E.link b ≡ Ok (link.Linked l) → Owned E H b l
  owns b l h x = case b c
      (λ a. owned_by b l added x (rw a w.added) s< (omega (arith, len)) (rw at_end (sym a)))
      (λ a. case b old
      (λ g. owned_by b l (link_for D.size s (H s) p) x (rw (g, mine) w.marked)
      (rw (link_slot D.size s (H s) p) s<) (rw (link_slot D.size s (H s) p, link_position D.size s (H s) p) (omega (arith, len)))
      (rw (link_slot D.size s (H s) p, link_position D.size s (H s) p, as_before s p pl) (sym g)))
      (λ g. let o = d.owned b l h (sym (w.elsewhere b (in_table h) a g) ∙ x) in
      record { slot = o.slot; in_file = omega (arith, o.in_file, longer l.slot); there = rw (as_before l.slot l.position o.in_file) o.there }))

  -- every other link is whose it was
  is_same : (t b : ℕ) → b < D.chunks → b ≢ c → is_of t (E.link b) ≡ is_of t (D.link b)
  is_same t b h a = case b old
      (λ g. case t s
      (λ z. rw g (is_of_lem t w.marked (link_slot D.size s (with_segment (G s) c) p ∙ sym z) ∙ sym (is_of_lem t (d.linked s p s< pl) (link_slot D.size s (G s) p ∙ sym z))))
      (λ z. rw g (not_of t w.marked (λ e. z (sym e ∙ link_slot D.size s (with_segment (G s) c) p)) ∙ sym (not_of t (d.linked s p s< pl) (λ e. z (sym e ∙ link_slot D.size s (G s) p))))))
      (λ g. ap (is_of t) (w.elsewhere b (in_table h) a g))

  counts : (t : ℕ) → t < 64 → tally (λ b. is_of t (E.link b)) D.chunks ≡ length (H t)
  counts = counts_one D E G H s c added d c< unused w.added refl is_same (omega (arith, len, last)) others

  extends : Good E H
  extends = record {
    whole = λ t a b. d.whole t a (sym (w.entries t a) ∙ b);
    free = λ t a b. case t s
        (λ x. absurd (vacant≢named {n = n} {i = id} (sym (w.entries t a) ∙ b) (rw x is)))
        (λ x. others t x ∙ d.free t a (sym (w.entries t a) ∙ b));
    held = λ t m k a b. omega (arith, d.held t m k a (sym (w.entries t a) ∙ b), longer t);
    older = λ t m k a b. rw w.next (d.older t m k a (sym (w.entries t a) ∙ b));
    ids = λ t u m o k l a b x y. d.ids t u m o k l a b (sym (w.entries t a) ∙ x) (sym (w.entries u b) ∙ y);
    names = λ t u m o k l a b x y. d.names t u m o k l a b (sym (w.entries t a) ∙ x) (sym (w.entries u b) ∙ y);
    inside = λ t q a b. rw N (which t q b (λ x. rw (as_before t q x) (d.inside t q a x)) (λ x y. rw (x, y, at_end) c<));
    linked = λ t q a b. rw Z (which t q b
        (λ x. rw (as_before t q x) (kept t q a x))
        (λ x y. rw (x, y, at_end) (w.added ∙ ap (λ k. Ok (link.Linked k)) (sym (last_link D.size s (H s) (p + 1) (omega (arith, len)))))));
    owned = λ b l x y. owns b l (rw N at x) y;
    either = λ b x. let h : b < D.chunks = rw N at x in case b c
        (λ a. inr (added, rw a w.added))
        (λ a. case b old
        (λ g. inr (link_for D.size s (with_segment (G s) c) p, rw g w.marked))
        (λ g. rw (w.elsewhere b (in_table h) a g) (d.either b h)));
    past = λ b x y. let h : D.chunks ≤ b = rw N at x in let k : b < links_of D.chunks = rw N at y in
        w.elsewhere b k (λ z. absurd (omega (arith, h, c<, z))) (λ z. absurd (omega (arith, h, d.inside s p s< pl, z))) ∙ d.past b h k;
    counted = λ t a. rw N (counts t a);
    fits = λ t q a b. rw Z (which t q b (λ x. rw (as_before t q x) (d.fits t q a x)) (λ x y. rw (x, y, at_end) (omega arith)));
    written = λ t q j m k a b x y. which t q x
        (λ z.
        let f : j < length (segment_at (G t) q).payloads = rw (as_before t q z) at y in
        rw (as_before t q z, Z) (w.records (segment_at (G t) q).chunk j (d.inside t q a z) (omega (arith, d.fits t q a z, f)) ∙ d.written t q j m k a (sym (w.entries t a) ∙ b) z f))
        (λ z z'. absurd (let g : j < length new.payloads = rw (z, z', at_end) at y in omega (arith, g)));
    spent = λ b j f k y x u m.
        let h : b < D.chunks = rw N at x in
        let g : j < D.size = rw Z at u in
        rw w.next (d.spent b j f k y h g (sym (w.records b j h g) ∙ m));
    placed = λ b j t k y m f x u e v o.
        let h : b < D.chunks = rw N at x in
        let g : j < D.size = rw Z at u in
        let l = d.placed b j t k y m f h g e (sym (w.records b j h g) ∙ v) (sym (w.entries t e) ∙ o) in
        record {
          position = l.position;
          in_file = omega (arith, l.in_file, longer t);
          there = rw (as_before t l.position l.in_file) l.there;
          filled = rw (as_before t l.position l.in_file) l.filled;
        };
  }

pub extend_good : {D E : Disk} {G : ℕ → List Segment} {c id : ℕ} {n : List ℕ} {mark : Link} (s p : ℕ) → Good D G → s < 64 → D.entry s ≡ named n id → p + 1 ≡ length (G s)
    → c < D.chunks → D.link c ≡ Ok link.Free → mark ≡ link_for D.size s (with_segment (G s) c) p
    → Extended D E c (segment_at (G s) p).chunk (record { slot = s; position = p + 1; partial = false; records = 0 }) mark
    → Good E (replaced G s (with_segment (G s) c))
extend_good {D} {E} {G} {c} {id} {n} {mark} s p d a b e f g h w = extends D E G s p c id n d a b e f g (rw h at w)
