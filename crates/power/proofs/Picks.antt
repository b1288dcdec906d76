-- The file that goes is the same for the directory and for the book: by its slot, by its name, and as the oldest that may go. Assumes nothing.
use Prim.Native.Nat.{ℕ, ◌≤◌, ◌<◌}
use mathlib.Core.Path.{◌≡◌, refl, ap, sym, ◌∙◌}
use mathlib.Core.Logic.{◌≢◌}
use mathlib.Core.Bool.{Bool, true, false, not, ◌&&◌}
use mathlib.Core.Option.{Option, none, some}
use mathlib.Core.List.{List}
use borrow.Author.Tests.{eq-eqb, ne_eqb, not-true}
use lib.Dec.{eqb}
use Rattle.std.specs.Prelude.{None, Some, Option as StdOption}
use Rattle.le.specs.Choice.{pick}
use Rattle.le.proofs.Bools.{and_true}
use Rattle.runs.specs.Run.{same_bytes}
use Rattle.runs.proofs.Tests.{same_true, same_self}
use Rattle.names.specs.Names.{in_dir}
use Rattle.directory.specs.Scan.{spares}
use Rattle.layout.specs.Views.{named, Disk}
use Rattle.layout.specs.Segments.{Segment, Good}
use Rattle.layout.proofs.Facts.{case, same_name, same_id}
use Rattle.folds.proofs.Oldest.{Goes}
use Rattle.power.specs.Book.{File, keep, is_spared, may_go, smallest, without_id, without_oldest, without_name}
use Rattle.power.proofs.Whole.{file_of, Ties}
use Rattle.power.proofs.Members.{mem_keep, keep_mem, keep_same, is_not, not_here, not_other, smallest_is}

-- a test that does not hold
other_bytes : (a b : List ℕ) → a ≢ b → same_bytes a b ≡ false
other_bytes a b n = go (same_bytes a b) refl
  where
    go : (t : Bool) → same_bytes a b ≡ t → t ≡ false
    go true e = absurd (n (same_true a b e))
    go false e = refl

eqb_swap : (a b : ℕ) → eqb a b ≡ eqb b a
eqb_swap a b = case a b (λ e. eq-eqb a b e ∙ sym (eq-eqb b a (sym e))) (λ e. ne_eqb a b e ∙ sym (ne_eqb b a (λ q. e (sym q))))

-- ---- the file that is spared

-- as the book has it
abbrev pub spared_by : StdOption ℕ → Option ℕ
spared_by None = none
spared_by (Some kept) = some kept

spared_same : (spared : StdOption ℕ) (i : ℕ) → is_spared (spared_by spared) i ≡ spares spared i
unfolding is_spared
spared_same None i = refl
spared_same (Some kept) i = eqb_swap kept i

module _ (dir : List ℕ) (spared : StdOption ℕ) (f : File) where
  pub goes_may : Goes dir spared f.name f.id → may_go dir (spared_by spared) f ≡ true
  unfolding may_go
  goes_may g = rw (g.inside, spared_same spared f.id, g.unspared) refl

  pub may_goes : may_go dir (spared_by spared) f ≡ true → Goes dir spared f.name f.id
  unfolding may_go
  may_goes e =
      let a = and_true (in_dir dir f.name) (not (is_spared (spared_by spared) f.id)) e in
      record { inside = a.0; unspared = sym (spared_same spared f.id) ∙ not-true _ a.1 }

-- ---- the file that goes

module _ {D : Disk} {G : ℕ → List Segment} {files : List File} {s id : ℕ} {n : List ℕ} (d : Good D G) (t : Ties D G files) (hs : s < 64) (is : D.entry s ≡ named n id) where
  -- it is the only one with its id, and with its name
  pub without_name_lem : without_name n files ≡ keep (is_not id) files
  unfolding without_name
  without_name_lem = keep_same (λ f. not (same_bytes n f.name)) (is_not id) files (λ f m. let o = t.from f m in alike f o.0 o.1 o.2)
    where
      alike : (f : File) (r : ℕ) → r < 64 → D.entry r ≡ named f.name f.id → not (same_bytes n f.name) ≡ is_not id f
      alike f r h e =
          case r s
          (λ x.
          let y : D.entry r ≡ named n id = ap D.entry x ∙ is in
          let z : f.name ≡ n = same_name e y in
          rw z (rw (same_self n) (sym (not_here id f (same_id e y)))))
          (λ x.
          rw (other_bytes n f.name (λ q. x (d.names r s f.name n f.id id h hs e is (sym q))))
          (sym (not_other id f (λ q. x (d.ids r s f.name n f.id id h hs e is q)))))

  module _ (dir : List ℕ) (spared : StdOption ℕ) (goes : Goes dir spared n id)
      (least : (r : ℕ) (m : List ℕ) (i : ℕ) → r < 64 → D.entry r ≡ named m i → Goes dir spared m i → id ≤ i) where
    oldest_id : smallest (keep (may_go dir (spared_by spared)) files) ≡ some id
    oldest_id =
        let p : File → Bool = may_go dir (spared_by spared) in
        let f : File = file_of n id (G s) in
        smallest_is (keep p files) f (mem_keep p f files (t.into s n id hs is) (goes_may dir spared f goes))
        (λ g m.
        let k = keep_mem p g files m in
        let o = t.from g k.0 in
        least o.0 g.name g.id o.1 o.2 (may_goes dir spared g k.1))

    pub without_oldest_lem : without_oldest (some dir) (spared_by spared) files ≡ keep (is_not id) files
    unfolding without_oldest without_id
    without_oldest_lem = ap (λ (o : Option ℕ). without_id o files) oldest_id
