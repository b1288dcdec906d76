-- A record written after the last one of the file in slot s: views and layout agree after it. Assumes nothing.
use mathlib.Core.Path.{◌≡◌, refl, ap, sym, ◌∙◌}
use mathlib.Core.Logic.{◌≢◌}
use mathlib.Core.List.{List, [], ◌∷◌, ◌++◌}
use Prim.Native.Nat.{ℕ, ◌+◌, ◌*◌, ◌≤◌, ◌<◌}
use native.Mathlib.Omega.{arith}
use lib.ListN.{length, get_or, set, length-append, get_or-append}
use lib.Seq.{get_or-set_same, get_or-set_other, get_or_at}
use Rattle.le.proofs.Tallies.{tally_ext}
use Rattle.layout.specs.Views.{named, stored, Disk}
use Rattle.layout.specs.Segments.{Segment, no_segment, segment_at, link_for, is_of, Good}
use Rattle.layout.specs.Changes.{replaced, with_payload, Recorded}
use Rattle.layout.proofs.Facts.{case, vacant≢named, same_id, same_file, in_table, replaced_here, replaced_other, last_link, same_mark, length_payload, one_place}

module _ (D E : Disk) (G : ℕ → List Segment) (s p i id : ℕ) (n x : List ℕ) (d : Good D G) (s< : s < 64) (is : D.entry s ≡ named n id)
    (last : p + 1 ≡ length (G s)) (at_end : i ≡ length (segment_at (G s) p).payloads) (room : i < D.size)
    (w : Recorded D E (segment_at (G s) p).chunk i id (p * D.size + i) x) where
  abbrev H : ℕ → List Segment
  H = replaced G s (with_payload (G s) p x)

  abbrev here : ℕ
  here = (segment_at (G s) p).chunk

  abbrev new : Segment
  new = record { chunk = (segment_at (G s) p).chunk; payloads = (segment_at (G s) p).payloads ++ (x ∷ []) }

  mine : H s ≡ set (G s) p new
  mine = replaced_here G s (with_payload (G s) p x)

  others : (t : ℕ) → t ≢ s → H t ≡ G t
  others = replaced_other G s (with_payload (G s) p x)

  N : E.chunks ≡ D.chunks
  N = w.shape.chunks

  Z : E.size ≡ D.size
  Z = w.shape.size

  len : (t : ℕ) → length (H t) ≡ length (G t)
  len t = case t s (λ q. rw q (ap length mine ∙ length_payload (G s) p x)) (λ q. ap length (others t q))

  pl : p < length (G s)
  pl = omega (arith, last)

  hit : segment_at (H s) p ≡ new
  hit = ap (λ (g : List Segment). segment_at g p) mine ∙ get_or-set_same (G s) p new no_segment pl

  miss : (t q : ℕ) → (t ≡ s → q ≢ p) → segment_at (H t) q ≡ segment_at (G t) q
  miss t q ne = case t s
      (λ a. rw a (ap (λ (g : List Segment). segment_at g q) mine ∙ get_or-set_other (G s) p q new no_segment (ne a)))
      (λ a. ap (λ (g : List Segment). segment_at g q) (others t a))

  -- the place written, and any other
  which : {P : Type 0} (t q : ℕ) → (t ≡ s → q ≡ p → P) → ((t ≡ s → q ≢ p) → P) → P
  which t q f g = case t s (λ a. case q p (f a) (λ b. g (λ a'. b))) (λ a. g (λ a'. absurd (a a')))

  at_place : {P : Type 0} (c j : ℕ) → (c ≡ here → j ≡ i → P) → ((c ≡ here → j ≢ i) → P) → P
  at_place c j f g = case c here (λ a. case j i (f a) (λ b. g (λ a'. b))) (λ a. g (λ a'. absurd (a a')))

  same_chunk : (t q : ℕ) → (segment_at (H t) q).chunk ≡ (segment_at (G t) q).chunk
  same_chunk t q = which t q (λ a b. rw (a, b, hit)) (λ ne. rw (miss t q ne))

  marks : (t q : ℕ) → link_for E.size t (H t) q ≡ link_for D.size t (G t) q
  marks t q = rw Z (which t q
      (λ a b. rw (a, b) (last_link D.size s (H s) p (last ∙ sym (len s)) ∙ sym (last_link D.size s (G s) p last)))
      (λ ne. same_mark D.size t (H t) (G t) q (len t) (ap (λ (g : Segment). length g.payloads) (miss t q ne))))

  long : length new.payloads ≡ i + 1
  long = length-append (segment_at (G s) p).payloads (x ∷ []) ∙ ap (λ (k : ℕ). k + 1) (sym at_end)

  grows : (t q : ℕ) → length (segment_at (G t) q).payloads ≤ length (segment_at (H t) q).payloads
  grows t q = which t q (λ a b. rw (a, b, hit) (omega (arith, long, at_end))) (λ ne. rw (miss t q ne) (omega arith))

  kept : (t q j : ℕ) (m : List ℕ) (k : ℕ) → t < 64 → D.entry t ≡ named m k → q < length (G t) → j < length (segment_at (G t) q).payloads
      → E.rec (segment_at (G t) q).chunk j ≡ stored k (q * D.size + j) (get_or (segment_at (G t) q).payloads j [])
  kept t q j m k a b c f = w.elsewhere (segment_at (G t) q).chunk j (d.inside t q a c) (omega (arith, d.fits t q a c, f)) (λ h y.
      let o = one_place d t q s p a s< c pl h in
      let z : length (segment_at (G t) q).payloads ≡ length (segment_at (G s) p).payloads = rw (o.0, o.1) refl in
      omega (arith, at_end, f, y, z)) ∙ d.written t q j m k a b c f

  old_payload : (j : ℕ) → j < i → get_or new.payloads j [] ≡ get_or (segment_at (G s) p).payloads j []
  old_payload j h = get_or-append (segment_at (G s) p).payloads (x ∷ []) [] j (omega (arith, at_end, h))

  new_payload : get_or new.payloads i [] ≡ x
  new_payload = get_or_at (segment_at (G s) p).payloads x [] [] i (sym at_end)

  wrote : (m : List ℕ) (k : ℕ) → E.entry s ≡ named m k → E.rec here i ≡ stored k (p * E.size + i) (get_or new.payloads i [])
  wrote m k b = rw (Z, new_payload, same_id (sym (w.entries s s<) ∙ b) is) w.here

  before : (j : ℕ) (m : List ℕ) (k : ℕ) → E.entry s ≡ named m k → j < length new.payloads → j ≢ i → E.rec here j ≡ stored k (p * E.size + j) (get_or new.payloads j [])
  before j m k b f ne =
      let h : j < i = omega (arith, long, f, ne) in
      rw (Z, old_payload j h) (kept s p j m k s< (sym (w.entries s s<) ∙ b) pl (omega (arith, at_end, h)))

  its_file : (c j f k : ℕ) (y : List ℕ) → E.rec c j ≡ stored f k y → c ≡ here → j ≡ i → f ≡ id
  its_file c j f k y m a b = same_file {g = id} {l = p * D.size + i} {y = x} m (rw (a, b) w.here)

  records : Good E H
  records = record {
    whole = λ t a b. d.whole t a (sym (w.entries t a) ∙ b);
    free = λ t a b. case t s
        (λ c. absurd (vacant≢named {n = n} {i = id} (sym (w.entries t a) ∙ b) (rw c is)))
        (λ c. others t c ∙ d.free t a (sym (w.entries t a) ∙ b));
    held = λ t m k a b. rw (len t) (d.held t m k a (sym (w.entries t a) ∙ b));
    older = λ t m k a b. rw w.next (d.older t m k a (sym (w.entries t a) ∙ b));
    ids = λ t u m o k l a b c e. d.ids t u m o k l a b (sym (w.entries t a) ∙ c) (sym (w.entries u b) ∙ e);
    names = λ t u m o k l a b c e. d.names t u m o k l a b (sym (w.entries t a) ∙ c) (sym (w.entries u b) ∙ e);
    inside = λ t q a b. rw (same_chunk t q, N) (d.inside t q a (rw (len t) at b));
    linked = λ t q a b.
        let b' : q < length (G t) = rw (len t) at b in
        rw (same_chunk t q, marks t q) (w.links (segment_at (G t) q).chunk (in_table (d.inside t q a b')) ∙ d.linked t q a b');
    owned = λ c l a b.
        let h : c < D.chunks = rw N at a in
        let o = d.owned c l h (sym (w.links c (in_table h)) ∙ b) in
        record { slot = o.slot; in_file = rw (len l.slot) o.in_file; there = same_chunk l.slot l.position ∙ o.there };
    either = λ c a. let h : c < D.chunks = rw N at a in rw (w.links c (in_table h)) (d.either c h);
    past = λ c a b. let h : D.chunks ≤ c = rw N at a in w.links c (rw N at b) ∙ d.past c h (rw N at b);
    counted = λ t a. rw (N, len t) (tally_ext (λ c. is_of t (E.link c)) (λ c. is_of t (D.link c)) D.chunks (λ c h. ap (is_of t) (w.links c (in_table h))) ∙ d.counted t a);
    fits = λ t q a b. rw Z (which t q (λ y z. rw (y, z, hit) (omega (arith, long, room))) (λ ne. rw (miss t q ne) (d.fits t q a (rw (len t) at b))));
    written = λ t q j m k a b c f. which t q
        (λ y z. case j i (λ h. rw (y, z, hit, h) (wrote m k (rw y at b))) (λ h. rw (y, z, hit) (before j m k (rw y at b) (rw (y, z, hit) at f) h)))
        (λ ne. rw (miss t q ne, Z) (kept t q j m k a (sym (w.entries t a) ∙ b) (rw (len t) at c) (rw (miss t q ne) at f)));
    spent = λ c j f k y a b m.
        let h : c < D.chunks = rw N at a in
        let g : j < D.size = rw Z at b in
        at_place c j
        (λ u z. rw (its_file c j f k y m u z, w.next) (d.older s n id s< is))
        (λ ne. rw w.next (d.spent c j f k y h g (sym (w.elsewhere c j h g ne) ∙ m)));
    placed = λ c j t k y m f a b e u v.
        let h : c < D.chunks = rw N at a in
        let g : j < D.size = rw Z at b in
        let o : D.entry t ≡ named m f = sym (w.entries t e) ∙ v in
        at_place c j
        (λ q z.
        let r : t ≡ s = d.ids t s m n f id e s< o is (its_file c j f k y u q z) in
        rw r (record { position = p; in_file = rw (len s) pl; there = rw hit (sym q); filled = rw hit (omega (arith, long, z)) }))
        (λ ne.
        let l = d.placed c j t k y m f h g e (sym (w.elsewhere c j h g ne) ∙ u) o in
        record {
          position = l.position;
          in_file = rw (len t) l.in_file;
          there = same_chunk t l.position ∙ l.there;
          filled = omega (arith, l.filled, grows t l.position);
        });
  }

pub record_good : {D E : Disk} {G : ℕ → List Segment} {i id : ℕ} {n x : List ℕ} (s p : ℕ) → Good D G → s < 64 → D.entry s ≡ named n id → p + 1 ≡ length (G s)
    → i ≡ length (segment_at (G s) p).payloads → i < D.size → Recorded D E (segment_at (G s) p).chunk i id (p * D.size + i) x
    → Good E (replaced G s (with_payload (G s) p x))
record_good {D} {E} {G} {i} {id} {n} {x} s p d a b c e f w = records D E G s p i id n x d a b c e f w
