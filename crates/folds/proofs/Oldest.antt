-- The oldest file of a directory, by the entries of the slots. Assumes nothing.
use Prim.Native.Nat.{ℕ, ◌+◌, ◌<◌, ◌≤◌}
use mathlib.Core.Path.{◌≡◌, refl, sym, subst}
use mathlib.Core.Bool.{Bool, true, false, not, ◌&&◌, false≢true}
use mathlib.Core.List.{List}
use native.Mathlib.Nat.{le_refl}
use native.Mathlib.Omega.{arith}
use borrow.Author.Count.{below_more, below_none}
use borrow.Author.Tests.{not-true, ltb-true, ltb-false}
use lib.Dec.{ltb}
use lib.ListN.{length}
use Rattle.std.specs.Prelude.{Option, None, Some, Result, Ok}
use Rattle.std.proofs.lemmas.Option.{none-some, same_Some}
use Rattle.le.proofs.Choices.{pick_keeps_by}
use Rattle.le.proofs.Bools.{and_true}
use Rattle.names.specs.Names.{in_dir}
use Rattle.medium.specs.declared.Error.{Error}
use Rattle.medium.specs.declared.Medium.{Medium}
use Rattle.handles.specs.declared.Store.{Store}
use Rattle.directory.specs.declared.Old.{Old}
use Rattle.directory.specs.Scan.{older_of, seeking, oldest_of, spares}
use Rattle.layout.specs.Views.{named, disk_of}
use Rattle.layout.specs.Segments.{Segment, Good}
use Rattle.layout.proofs.Facts.{vacant≢named, same_name, same_id, true≢false}
use Rattle.folds.specs.Checked.{Checked}
use Rattle.folds.proofs.Walked.{scan_views}

both_false : (a b : Bool) → (a && b) ≡ false → a ≡ true → b ≡ false
both_false true b e q = e
both_false false b e q = absurd (false≢true q)

-- a file that may go: it is in the directory, and not spared
pub record Goes (dir : List ℕ) (spared : Option ℕ) (n : List ℕ) (i : ℕ) : Type 0 where
  pub inside : in_dir dir n ≡ true
  pub unspared : (spares spared i) ≡ false

module _ (vol : List ℕ) (st : Store) (dir : List ℕ) (spared : Option ℕ) where
  -- the file picked
  pub record Picked (old : Old) : Type 0 where
    pub name : List ℕ
    pub below : old.slot < 64
    pub entry : (disk_of vol st).entry old.slot ≡ named name old.id
    pub goes : Goes dir spared name old.id
    pub len : old.len ≡ length name

  -- what the slots below k tell
  pub record Olds (k : ℕ) (old : Option Old) : Type 0 where
    pub none : old ≡ None → (s : ℕ) → s < k → (n : List ℕ) (i : ℕ) → (disk_of vol st).entry s ≡ named n i → Goes dir spared n i → ⊥
    pub some : {o : Old} → old ≡ Some o → Picked o
    pub least : {o : Old} → old ≡ Some o → (s : ℕ) → s < k → (n : List ℕ) (i : ℕ) → (disk_of vol st).entry s ≡ named n i → Goes dir spared n i → o.id ≤ i

  abbrev test : List ℕ → ℕ → Bool
  test n i = in_dir dir n && not (spares spared i)

  -- slot k has no file that may go and is older
  passed : (k : ℕ) (old : Option Old) → Olds k old → (old ≡ None → (n : List ℕ) (i : ℕ) → (disk_of vol st).entry k ≡ named n i → Goes dir spared n i → ⊥)
      → ((o : Old) → old ≡ Some o → (n : List ℕ) (i : ℕ) → (disk_of vol st).entry k ≡ named n i → Goes dir spared n i → o.id ≤ i) → Olds (k + 1) old
  passed k old p f g =
      record {
        none = λ e. below_more (λ (s : ℕ). (n : List ℕ) (i : ℕ) → (disk_of vol st).entry s ≡ named n i → Goes dir spared n i → ⊥) k (p.none e) (f e);
        some = p.some;
        least = λ {o} e. below_more (λ (s : ℕ). (n : List ℕ) (i : ℕ) → (disk_of vol st).entry s ≡ named n i → Goes dir spared n i → o.id ≤ i) k (p.least e) (g o e);
      }

  module _ (k : ℕ) (n : List ℕ) (i : ℕ) (h : k < 64) (q : (disk_of vol st).entry k ≡ named n i) where
    -- what the test says of a file of this slot
    goes_test : (n' : List ℕ) (i' : ℕ) → (disk_of vol st).entry k ≡ named n' i' → Goes dir spared n' i' → test n i ≡ true
    goes_test n' i' v g = rw (same_name q v, same_id q v, g.inside, g.unspared)

    -- it is picked
    picked : (old : Option Old) → Olds k old → test n i ≡ true → ((o : Old) → old ≡ Some o → i < o.id) → Olds (k + 1) (Some (record { slot = k; id = i; len = length n }))
    picked old p t first =
        let a = and_true (in_dir dir n) (not (spares spared i)) t in
        record {
          none = λ e. absurd (none-some _ (sym e));
          some = λ {o} e. subst Picked (same_Some _ _ e) (record { name = n; below = h; entry = q; goes = record { inside = a.0; unspared = not-true _ a.1 }; len = refl });
          least = λ {o} e. subst (λ (o : Old). (s : ℕ) → s < k + 1 → (n : List ℕ) (i' : ℕ) → (disk_of vol st).entry s ≡ named n i' → Goes dir spared n i' → o.id ≤ i')
              (same_Some _ _ e)
              (below_more (λ (s : ℕ). (n : List ℕ) (i' : ℕ) → (disk_of vol st).entry s ≡ named n i' → Goes dir spared n i' → i ≤ i') k
              (before old p first)
              (λ n' i' v g. rw (same_id q v) (le_refl i')));
        }
      where
        before : (old : Option Old) → Olds k old → ((o : Old) → old ≡ Some o → i < o.id) → (s : ℕ) → s < k → (n' : List ℕ) (i' : ℕ) → (disk_of vol st).entry s ≡ named n' i'
            → Goes dir spared n' i' → i ≤ i'
        before (Some o) p first s b n' i' v g = omega (arith, first o refl, p.least refl s b n' i' v g)
        before None p first s b n' i' v g = absurd (p.none refl s b n' i' v g)

    older : (old : Option Old) → Olds k old → Olds (k + 1) (older_of k i (length n) (test n i) old)
    unfolding older_of
    older None p =
        pick_keeps_by (Olds (k + 1)) (test n i && true) _ _
        (λ t. picked None p (and_true (test n i) true t).0 (λ o e. absurd (none-some _ e)))
        (λ t.
        passed k None p
        (λ e n' i' v g. false≢true (sym (both_false (test n i) true t (goes_test n' i' v g))))
        (λ o e n' i' v g. absurd (none-some _ e)))
    older (Some old) p =
        pick_keeps_by (Olds (k + 1)) (test n i && ltb i old.id) _ _
        (λ t. let a = and_true (test n i) (ltb i old.id) t in picked (Some old) p a.0 (λ o e. rw (← same_Some _ _ e) (ltb-true i old.id a.1)))
        (λ t.
        passed k (Some old) p
        (λ e n' i' v g. absurd (none-some _ (sym e)))
        (λ o e n' i' v g. rw (← same_Some _ _ e, ← same_id q v) (ltb-false i old.id (both_false (test n i) _ t (goes_test n' i' v g)))))

pub oldest_view : (vol : List ℕ) (m : Medium) (st : Store) → Checked vol m st → (G : ℕ → List Segment) → Good (disk_of vol st) G → (dir : List ℕ) (spared : Option ℕ)
    → (old : Option Old) × (oldest_of vol m st dir spared ≡ Ok old) × Olds vol st dir spared 64 old
unfolding oldest_of
oldest_view vol m st ok G good dir spared =
    scan_views vol m st ok (seeking dir spared) (Olds vol st dir spared)
    (λ r. (old : Option Old) × (r ≡ Ok old) × Olds vol st dir spared 64 old) good.whole
    (λ k t b p q. passed vol st dir spared k t p (λ e n i v g. vacant≢named q v) (λ o e n i v g. absurd (vacant≢named q v)))
    (λ k t n i b p q. older vol st dir spared k n i b q t p) (λ t p. (t, refl, p)) _
    (record { none = λ e. below_none _; some = λ {o} e. absurd (none-some _ e); least = λ {o} e. absurd (none-some _ e) })
