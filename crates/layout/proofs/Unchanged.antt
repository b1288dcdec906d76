-- Views that did not change agree with the same layout; a fresh store agrees with the empty one. Assumes nothing.
use mathlib.Core.Path.{◌≡◌, refl, ap, sym, ◌∙◌}
use mathlib.Core.Logic.{inl}
use mathlib.Core.List.{List, []}
use Prim.Native.Nat.{ℕ, ◌≤◌, ◌<◌}
use native.Mathlib.Omega.{arith}
use Rattle.le.proofs.Tallies.{tally_ext, tally_none}
use Rattle.layout.specs.Views.{Disk}
use Rattle.layout.specs.Segments.{Segment, segment_at, is_of, Good}
use Rattle.layout.specs.Changes.{Unchanged, Fresh}
use Rattle.layout.proofs.Facts.{vacant≢named, vacant≢broken, blank≢stored, free≢linked, free_of_lem, in_table}

pub good_same : {D E : Disk} {G : ℕ → List Segment} → Good D G → Unchanged D E → Good E G
good_same {D} {E} {G} d w =
    let N : E.chunks ≡ D.chunks = w.shape.chunks in
    let Z : E.size ≡ D.size = w.shape.size in
    record {
      whole = λ t a b. d.whole t a (sym (w.entries t a) ∙ b);
      free = λ t a b. d.free t a (sym (w.entries t a) ∙ b);
      held = λ t n i a b. d.held t n i a (sym (w.entries t a) ∙ b);
      older = λ t n i a b. rw w.next (d.older t n i a (sym (w.entries t a) ∙ b));
      ids = λ t u n m i j a b x y. d.ids t u n m i j a b (sym (w.entries t a) ∙ x) (sym (w.entries u b) ∙ y);
      names = λ t u n m i j a b x y. d.names t u n m i j a b (sym (w.entries t a) ∙ x) (sym (w.entries u b) ∙ y);
      inside = λ t q a b. rw N (d.inside t q a b);
      linked = λ t q a b. rw Z (w.links (segment_at (G t) q).chunk (in_table (d.inside t q a b)) ∙ d.linked t q a b);
      owned = λ c l a b.
          let h : c < D.chunks = rw N at a in
          let o = d.owned c l h (sym (w.links c (in_table h)) ∙ b) in
          record { slot = o.slot; in_file = o.in_file; there = o.there };
      either = λ c a. let h : c < D.chunks = rw N at a in rw (w.links c (in_table h)) (d.either c h);
      past = λ c a b. let h : D.chunks ≤ c = rw N at a in w.links c (rw N at b) ∙ d.past c h (rw N at b);
      counted = λ t a. rw N (tally_ext (λ c. is_of t (E.link c)) (λ c. is_of t (D.link c)) D.chunks (λ c h. ap (is_of t) (w.links c (in_table h))) ∙ d.counted t a);
      fits = λ t q a b. rw Z (d.fits t q a b);
      written = λ t q j n i a b x y. rw Z (w.records (segment_at (G t) q).chunk j (d.inside t q a x) (omega (arith, d.fits t q a x, y)) ∙ d.written t q j n i a (sym (w.entries t a) ∙ b) x y);
      spent = λ c j f k x a b m.
          let h : c < D.chunks = rw N at a in let i : j < D.size = rw Z at b in
          rw w.next (d.spent c j f k x h i (sym (w.records c j h i) ∙ m));
      placed = λ c j t k x n id a b e m o.
          let h : c < D.chunks = rw N at a in let i : j < D.size = rw Z at b in
          d.placed c j t k x n id h i e (sym (w.records c j h i) ∙ m) (sym (w.entries t e) ∙ o);
    }

pub fresh_good : {E : Disk} → Fresh E → Good E (λ s. [])
fresh_good {E} w = record {
  whole = λ t a b. vacant≢broken (w.entries t a) b;
  free = λ t a b. refl;
  held = λ t n i a b. absurd (vacant≢named (w.entries t a) b);
  older = λ t n i a b. absurd (vacant≢named (w.entries t a) b);
  ids = λ t u n m i j a b x y. absurd (vacant≢named (w.entries t a) x);
  names = λ t u n m i j a b x y. absurd (vacant≢named (w.entries t a) x);
  inside = λ t q a b. absurd (omega arith);
  linked = λ t q a b. absurd (omega arith);
  owned = λ c l a b. absurd (free≢linked (w.links c a) b);
  either = λ c a. inl (w.links c a);
  past = w.past;
  counted = λ t a. tally_none (λ c. is_of t (E.link c)) E.chunks (λ c h. free_of_lem t (w.links c h));
  fits = λ t q a b. absurd (omega arith);
  written = λ t q j n i a b x. absurd (omega arith);
  spent = λ c j f k x a b m. absurd (blank≢stored (w.records c j a b) m);
  placed = λ c j t k x n id a b e m. absurd (blank≢stored (w.records c j a b) m);
}
