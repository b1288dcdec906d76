-- The files of the book and the directory through each change of the views: nothing, a record, a chunk more, a file made, a file gone, a fresh store.
-- Assumes nothing.
use Prim.Native.Nat.{ℕ, ◌+◌, ◌<◌}
use mathlib.Core.Path.{◌≡◌, refl, ap, sym, ◌∙◌}
use mathlib.Core.Logic.{◌≢◌, ◌⊎◌, inl, inr}
use mathlib.Core.Bool.{Bool, true, false}
use mathlib.Core.List.Memᴰ
use mathlib.Core.List.{List, [], ◌∷◌, ◌++◌}
use native.Mathlib.Omega.{arith}
use lib.ListN.{length, length-append}
use Rattle.le.specs.Tally.{tally}
use Rattle.le.proofs.Tallies.{tally_ext, tally_none}
use Rattle.names.proofs.Laws.{in_root}
use Rattle.layout.specs.Views.{Entry, vacant, named, Disk}
use Rattle.layout.specs.Segments.{Segment, Good}
use Rattle.layout.specs.Changes
use Rattle.layout.specs.Changes.{replaced, with_segment, SameEntries, Unchanged, Recorded, Extended, Created, Removed, Fresh}
use Rattle.layout.proofs.Facts.{case, true≢false, vacant≢named, same_name, same_id, replaced_here, replaced_other, payloads_segment, payloads_payload, length_payload, length_segment}
use Rattle.layout.proofs.Tallies.{tally_one}
use Rattle.folds.specs.Rows.{listed_in}
use Rattle.table.specs.declared.Link.{Link}
use Rattle.power.specs.Book
use Rattle.power.specs.Book.{File, keep, on_file, with_chunk}
use Rattle.power.proofs.Whole.{file_of, Ties}
use Rattle.power.proofs.Members.{Mem, changed, changed_here, changed_other, mem_on, on_mem, apart_on, length_on, mem_keep, keep_mem, apart_keep, is_not, not_here, not_other, length_without, apart_more, mem_old, mem_new, more_mem}

-- ---- which slots are counted

abbrev counts : Disk → ℕ → Bool
counts D s = listed_in [] (D.entry s)

pub named_counts : {o : Entry} {n : List ℕ} {i : ℕ} → o ≡ named n i → listed_in [] o ≡ true
unfolding listed_in
named_counts {o} {n} e = rw e (in_root n)

pub vacant_counts : {o : Entry} → o ≡ vacant → listed_in [] o ≡ false
unfolding listed_in
vacant_counts e = rw e refl

same_counts : (D E : Disk) → SameEntries D E → tally (counts E) 64 ≡ tally (counts D) 64
same_counts D E w = tally_ext (counts E) (counts D) 64 (λ s h. ap (listed_in []) (w s h))

-- ---- a file that is a slot's

in_slot : (E : Disk) (H : ℕ → List Segment) (g : File) (n : List ℕ) (i r : ℕ) → r < 64 → E.entry r ≡ named n i → g ≡ file_of n i (H r)
    → (s : ℕ) × (s < 64) × (E.entry s ≡ named g.name g.id) × (g ≡ file_of g.name g.id (H s))
in_slot E H g n i r h e q = rw q (r, h, e, refl)

-- ---- nothing changed

pub ties_same : {D E : Disk} {G : ℕ → List Segment} {files : List File} → Ties D G files → Unchanged D E → Ties E G files
ties_same {D} {E} t w =
    record {
      into = λ s n i h e. t.into s n i h (sym (w.entries s h) ∙ e);
      from = λ f m. let o = t.from f m in (o.0, o.1, w.entries o.0 o.1 ∙ o.2, o.3);
      apart = t.apart;
      many = t.many ∙ sym (same_counts D E w.entries);
    }

pub ties_fresh : {E : Disk} → Fresh E → Ties E (λ s. []) []
ties_fresh {E} w =
    record {
      into = λ s n i h e. absurd (vacant≢named (w.entries s h) e);
      from = λ f m. absurd (Memᴰ.not-nil m);
      apart = tt;
      many = sym (tally_none (counts E) 64 (λ s h. vacant_counts (w.entries s h)));
    }

-- ---- one file changed: the one in slot s

module _ {D : Disk} (E : Disk) {G H : ℕ → List Segment} {files : List File} (s : ℕ) {n : List ℕ} {id : ℕ} (u : File → File) (d : Good D G) (t : Ties D G files) (w : SameEntries D E)
    (others : (r : ℕ) → r ≢ s → H r ≡ G r) (hs : s < 64) (is : D.entry s ≡ named n id) (same : (f : File) → (u f).id ≡ f.id)
    (hit : u (file_of n id (G s)) ≡ file_of n id (H s)) where
  file_changed : (r : ℕ) (m : List ℕ) (i : ℕ) → r < 64 → D.entry r ≡ named m i → changed id u (file_of m i (G r)) ≡ file_of m i (H r)
  file_changed r m i h e =
      case r s
      (λ x.
      let y : D.entry r ≡ named n id = rw x is in
      let a : m ≡ n = same_name e y in
      let b : i ≡ id = same_id e y in
      rw (a, b, x) (changed_here id u (file_of n id (G s)) refl ∙ hit))
      (λ x. changed_other id u (file_of m i (G r)) (λ y. x (d.ids r s m n i id h hs e is y)) ∙ rw (others r x))

  pub ties_changed : Ties E H (on_file id u files)
  ties_changed =
      record {
        into = λ r m i h e.
            let e' : D.entry r ≡ named m i = sym (w r h) ∙ e in
            rw (← file_changed r m i h e') (mem_on id u (file_of m i (G r)) files (t.into r m i h e'));
        from = λ g m.
            let k = on_mem id u g files m in
            let o = t.from k.0 k.1 in
            in_slot E H g k.0.name k.0.id o.0 o.1 (w o.0 o.1 ∙ o.2)
            (k.2 ∙ ap (changed id u) o.3 ∙ file_changed o.0 k.0.name k.0.id o.1 o.2);
        apart = apart_on id u same files t.apart;
        many = length_on id u files ∙ t.many ∙ sym (same_counts D E w);
      }

pub ties_record : {D E : Disk} {G : ℕ → List Segment} {files : List File} {c i id number : ℕ} {n x : List ℕ} (s p : ℕ) → Good D G → Ties D G files → s < 64
    → D.entry s ≡ named n id → p + 1 ≡ length (G s) → Recorded D E c i id number x
    → Ties E (replaced G s (Changes.with_payload (G s) p x)) (on_file id (Book.with_payload x) files)
ties_record {D} {E} {G} {files} {c} {i} {id} {number} {n} {x} s p d t hs is last w =
    ties_changed E s (Book.with_payload x) d t w.entries (replaced_other G s (Changes.with_payload (G s) p x)) hs is (λ f. refl)
    (rw (replaced_here G s (Changes.with_payload (G s) p x), length_payload (G s) p x, payloads_payload (G s) p x last) refl)

pub ties_extend : {D E : Disk} {G : ℕ → List Segment} {files : List File} {c old id : ℕ} {n : List ℕ} {new mark : Link} (s : ℕ) → Good D G → Ties D G files → s < 64
    → D.entry s ≡ named n id → Extended D E c old new mark → Ties E (replaced G s (with_segment (G s) c)) (on_file id with_chunk files)
ties_extend {D} {E} {G} {files} {c} {old} {id} {n} {new} {mark} s d t hs is w =
    ties_changed E s with_chunk d t w.entries (replaced_other G s (with_segment (G s) c)) hs is (λ f. refl)
    (rw (replaced_here G s (with_segment (G s) c), length_segment (G s) c, payloads_segment (G s) c) refl)

-- ---- a file made

module _ {D E : Disk} {G : ℕ → List Segment} {files : List File} {s c : ℕ} {name : List ℕ} (d : Good D G) (t : Ties D G files) (hs : s < 64) (is : D.entry s ≡ vacant)
    (w : Created D E s c name) where
  abbrev first : List Segment
  first = (record { chunk = c; payloads = [] }) ∷ []

  abbrev new : File
  new = record { name = name; id = D.next; chunks = 1; payloads = [] }

  made : (r : ℕ) (m : List ℕ) (i : ℕ) → r ≡ s → E.entry r ≡ named m i → Mem (file_of m i (replaced G s first r)) (files ++ (new ∷ []))
  made r m i x e =
      let y : E.entry r ≡ named name D.next = rw x w.entry in
      rw (x, same_name e y, same_id e y, replaced_here G s first) (mem_new files new)

  kept : (r : ℕ) (m : List ℕ) (i : ℕ) → r < 64 → r ≢ s → E.entry r ≡ named m i → Mem (file_of m i (replaced G s first r)) (files ++ (new ∷ []))
  kept r m i h x e = rw (replaced_other G s first r x) (mem_old (file_of m i (G r)) files new (t.into r m i h (sym (w.entries r h x) ∙ e)))

  back : (f : File) → Mem f files ⊎ (f ≡ new)
      → (r : ℕ) × (r < 64) × (E.entry r ≡ named f.name f.id) × (f ≡ file_of f.name f.id (replaced G s first r))
  back f (inl m) =
      let o = t.from f m in
      let x : o.0 ≢ s = λ q. vacant≢named is (ap D.entry (sym q) ∙ o.2) in
      (o.0, o.1, w.entries o.0 o.1 x ∙ o.2, o.3 ∙ rw (replaced_other G s first o.0 x) refl)
  back f (inr q) = rw q (s, hs, w.entry, rw (replaced_here G s first) refl)

  pub ties_create : Ties E (replaced G s ((record { chunk = c; payloads = [] }) ∷ [])) (files ++ ((record { name = name; id = D.next; chunks = 1; payloads = [] }) ∷ []))
  ties_create =
      record {
        into = λ r m i h e. case r s (λ x. made r m i x e) (λ x. kept r m i h x e);
        from = λ f m. back f (more_mem f files new m);
        apart = apart_more files new t.apart (λ g m q. let o = t.from g m in absurd (omega (arith, q, d.older o.0 g.name g.id o.1 o.2)));
        many =
            length-append files (new ∷ [])
            ∙ rw t.many
            (sym (tally_one (counts D) (counts E) 64 s hs (vacant_counts is) (named_counts w.entry) (λ r h x. ap (listed_in []) (w.entries r h x))));
      }

-- ---- a file gone

pub ties_remove : {D E : Disk} {G : ℕ → List Segment} {files : List File} {s id : ℕ} {n : List ℕ} → Good D G → Ties D G files → s < 64 → D.entry s ≡ named n id
    → Removed D E s → Ties E (replaced G s []) (keep (is_not id) files)
ties_remove {D} {E} {G} {files} {s} {id} {n} d t hs is w =
    record {
      into = λ r m i h e.
          let x : r ≢ s = λ q. vacant≢named w.entry (ap E.entry (sym q) ∙ e) in
          let e' : D.entry r ≡ named m i = sym (w.entries r h x) ∙ e in
          rw (replaced_other G s [] r x)
          (mem_keep (is_not id) (file_of m i (G r)) files (t.into r m i h e') (not_other id (file_of m i (G r)) (λ q. x (d.ids r s m n i id h hs e' is q))));
      from = λ f m.
          let k = keep_mem (is_not id) f files m in
          let o = t.from f k.0 in
          let x : o.0 ≢ s = λ q. true≢false k.1 (not_here id f (same_id (ap D.entry (sym q) ∙ o.2) is)) in
          (o.0, o.1, w.entries o.0 o.1 x ∙ o.2, o.3 ∙ rw (replaced_other G s [] o.0 x) refl);
      apart = apart_keep (is_not id) files t.apart;
      many =
          let a = length_without (file_of n id (G s)) files t.apart (t.into s n id hs is) in
          let b = tally_one (counts E) (counts D) 64 s hs (vacant_counts w.entry) (named_counts is) (λ r h x. ap (listed_in []) (sym (w.entries r h x))) in
          omega (arith, a, b, t.many);
    }
