-- What `find`, `find_id` and create's look answer, by the entries of the slots. Assumes nothing.
use Prim.Native.Nat.{ℕ, ◌+◌, ◌<◌, ◌≤◌}
use mathlib.Core.Path.{◌≡◌, refl, sym, ap, ap₂, ◌∙◌}
use mathlib.Core.Bool.{Bool, true, false, false≢true}
use mathlib.Core.List.{List}
use native.Mathlib.Omega.{arith}
use borrow.Author.Count.{below_more, below_none}
use borrow.Author.Tests.{eq-eqb, eqb-true}
use lib.Dec.{eqb}
use lib.ListN.{length}
use Rattle.std.specs.Prelude.{Option, None, Some, Result, Ok, Err}
use Rattle.std.specs.Option.{option_or}
use Rattle.std.proofs.lemmas.Option.{none-some}
use Rattle.le.specs.Part.{part}
use Rattle.le.proofs.Choices.{pick_keeps_by}
use Rattle.runs.specs.Run.{same_bytes}
use Rattle.runs.proofs.Tests.{same_true, same_self}
use Rattle.medium.specs.declared.Error.{Error}
use Rattle.medium.specs.declared.Error.TheVariants.{NotFound, Lost}
use Rattle.medium.specs.declared.Medium.{Medium}
use Rattle.handles.specs.declared.Store.{Store}
use Rattle.directory.specs.declared.Seen.{Seen}
use Rattle.directory.specs.declared.File.{File}
use Rattle.directory.specs.Entry.{entry_of, entry_at, file_of}
use Rattle.directory.specs.Scan.{scan_of, first, find_of, find_id_of, free_seen, file_seen, looking, look_of, found_at}
use Rattle.directory.proofs.Entries.{found_file}
use Rattle.directory.proofs.Ranges.{FileAt, FreeAt, find_name, look_free}
use Rattle.directory.proofs.Scans.{Left}
use Rattle.layout.specs.Views.{vacant, named, disk_of, entry_view}
use Rattle.layout.specs.Segments.{Segment, Good}
use Rattle.layout.proofs.Facts.{vacant≢named, named≢broken, same_name, same_id}
use Rattle.folds.specs.Checked.{Checked}
use Rattle.folds.proofs.Walked.{slot_reads, scan_views}

-- ---- an entry as the directory's laws have it, and as a view

module _ (vol : List ℕ) (st : Store) where
  pub file_view : {s i : ℕ} {name : List ℕ} → FileAt vol st s i name → (disk_of vol st).entry s ≡ named name i
  unfolding entry_view
  file_view {s} {i} f = ap (entry_view (entry_at vol st s)) f.entry ∙ ap (λ (n : List ℕ). named n i) f.named

  pub free_view : {s : ℕ} → FreeAt vol st s → (disk_of vol st).entry s ≡ vacant
  unfolding entry_view
  free_view {s} f = ap (entry_view (entry_at vol st s)) f.entry

module _ (vol : List ℕ) (m : Medium) (st : Store) (ok : Checked vol m st) where
  pub view_file : {s i : ℕ} {name : List ℕ} → s < 64 → (disk_of vol st).entry s ≡ named name i → FileAt vol st s i name
  unfolding entry_view
  view_file {s} {i} {name} h e = go (entry_of (entry_at vol st s)) refl e
    where
      go : (x : Result (Option File) Error) → entry_of (entry_at vol st s) ≡ x → entry_view (entry_at vol st s) x ≡ named name i → FileAt vol st s i name
      go (Err c) q v = absurd (named≢broken v refl)
      go (Ok None) q v = absurd (vacant≢named refl v)
      go (Ok (Some x)) q v =
          let f = found_file vol m st s refl (slot_reads vol m st ok s h ∙ q) in
          let n : part 0 x.len (entry_at vol st s) ≡ name = same_name refl v in
          let k : x.id ≡ i = same_id refl v in
          let l : x.len ≡ length name = sym f.whole ∙ ap length n in
          record {
            below = h;
            some = rw (← k) f.some;
            short = rw (← l) f.short;
            fine = rw (← n) f.name;
            entry = q ∙ ap₂ file_of k l;
            named = rw (← l) n;
          }

-- ---- find: the slot that it answers has the name, whatever else is wrong

pub find_view : (vol : List ℕ) (m : Medium) (st : Store) (name : List ℕ) {s i : ℕ} → find_of vol m st name ≡ found_at s i
    → (s < 64) × ((disk_of vol st).entry s ≡ named name i)
find_view vol m st name e = let f = find_name vol m st name e in (f.below, file_view vol st f)

-- create's look is done: it tells whether a file has the name, and a vacant slot if there is one
pub record Look (vol : List ℕ) (m : Medium) (st : Store) (name : List ℕ) (seen : Seen) : Type 0 where
  pub answer : look_of vol m st name ≡ Ok seen
  pub new : seen.exists ≡ false → (s i : ℕ) → s < 64 → (disk_of vol st).entry s ≡ named name i → ⊥
  pub there : seen.exists ≡ true → (s : ℕ) × (s < 64) × ((i : ℕ) × ((disk_of vol st).entry s ≡ named name i))
  pub full : seen.free ≡ None → (s : ℕ) → s < 64 → (disk_of vol st).entry s ≡ vacant → ⊥
  pub below : {slot : ℕ} → seen.free ≡ Some slot → slot < 64
  pub vacant : {slot : ℕ} → seen.free ≡ Some slot → (disk_of vol st).entry slot ≡ vacant

module _ (vol : List ℕ) (m : Medium) (st : Store) (ok : Checked vol m st) (G : ℕ → List Segment) (good : Good (disk_of vol st) G) where
  -- the file in slot s is found where the test takes it, and none in a slot before it
  first_there : (test : ℕ → List ℕ → Bool) (none : Error) (name : List ℕ) (s i : ℕ) → s < 64 → (disk_of vol st).entry s ≡ named name i → test i name ≡ true
      → ((k : ℕ) (n : List ℕ) (j : ℕ) → k < 64 → (disk_of vol st).entry k ≡ named n j → test j n ≡ true → s ≤ k) → scan_of (first test none) vol m st tt ≡ found_at s i
  first_there test none name s i h e takes lowest =
      scan_views vol m st ok (first test none) (λ k t. k ≤ s) (λ r. r ≡ found_at s i) good.whole
      (λ k t b p q. let n : k ≡ s → ⊥ = λ x. vacant≢named q (there k x) in omega arith)
      (λ k t n id b p q.
      pick_keeps_by (Left (λ u. k + 1 ≤ s) (λ r. r ≡ found_at s i)) (test id n) _ _
      (λ same.
      let l : s ≤ k = lowest k n id b q same in
      let x : k ≡ s = omega arith in
      ap₂ found_at x (same_id q (there k x)))
      (λ other.
      let x : k ≡ s → ⊥ = λ y. false≢true (sym other ∙ rw (same_name q (there k y), same_id q (there k y)) takes) in
      omega arith))
      (λ t p. absurd (omega arith)) tt (omega arith)
    where
      there : (k : ℕ) → k ≡ s → (disk_of vol st).entry k ≡ named name i
      there k x = rw x e

  -- the file that has the name is found, and the file that has the id: no slot before it has it
  pub find_there : (name : List ℕ) (s i : ℕ) → s < 64 → (disk_of vol st).entry s ≡ named name i → find_of vol m st name ≡ found_at s i
  unfolding find_of
  find_there name s i h e =
      first_there (λ _ n. same_bytes name n) NotFound name s i h e (same_self name)
      (λ k n j b q same. let x : k ≡ s = good.names k s n name j i b h q e (sym (same_true name n same)) in omega arith)

  pub find_id_there : (name : List ℕ) (s i : ℕ) → s < 64 → (disk_of vol st).entry s ≡ named name i → find_id_of vol m st i ≡ found_at s i
  unfolding find_id_of
  find_id_there name s i h e =
      first_there (λ j _. eqb j i) Lost name s i h e (eq-eqb i i refl)
      (λ k n j b q same. let x : k ≡ s = good.ids k s n name j i b h q e (eqb-true j i same) in omega arith)

  -- no file is one that the test takes
  first_none : (test : ℕ → List ℕ → Bool) (none : Error) → ((k : ℕ) (n : List ℕ) (j : ℕ) → k < 64 → (disk_of vol st).entry k ≡ named n j → test j n ≡ true → ⊥)
      → scan_of (first test none) vol m st tt ≡ Err none
  first_none test none never =
      scan_views vol m st ok (first test none) (λ k t. Unit {0}) (λ r. r ≡ Err none) good.whole
      (λ k t b p q. tt)
      (λ k t n id b p q. pick_keeps_by (Left (λ u. Unit {0}) (λ r. r ≡ Err none)) (test id n) _ _ (λ same. absurd (never k n id b q same)) (λ other. tt))
      (λ t p. refl) tt tt

  pub find_none : (name : List ℕ) → ((s i : ℕ) → s < 64 → (disk_of vol st).entry s ≡ named name i → ⊥) → find_of vol m st name ≡ Err NotFound
  unfolding find_of
  find_none name none =
      first_none (λ _ n. same_bytes name n) NotFound (λ k n j b q same. none k j b (q ∙ ap (λ (x : List ℕ). named x j) (sym (same_true name n same))))

  pub find_id_none : (id : ℕ) → ((s : ℕ) (name : List ℕ) (i : ℕ) → s < 64 → (disk_of vol st).entry s ≡ named name i → i ≡ id → ⊥) → find_id_of vol m st id ≡ Err Lost
  unfolding find_id_of
  find_id_none id none = first_none (λ j _. eqb j id) Lost (λ k n j b q same. none k n j b q (eqb-true j id same))

  -- ---- create's look

  -- of the slots below k
  record Upto (name : List ℕ) (k : ℕ) (seen : Seen) : Type 0 where
    pub new : seen.exists ≡ false → (s : ℕ) → s < k → (i : ℕ) → (disk_of vol st).entry s ≡ named name i → ⊥
    pub there : seen.exists ≡ true → (s : ℕ) × (s < k) × ((i : ℕ) × ((disk_of vol st).entry s ≡ named name i))
    pub full : seen.free ≡ None → (s : ℕ) → s < k → (disk_of vol st).entry s ≡ vacant → ⊥

  abbrev Looks : List ℕ → Result Seen Error → Type 0
  Looks name r = (seen : Seen) × (r ≡ Ok seen) × Upto name 64 seen

  -- a slot more, where the next one adds nothing
  more_new : (name : List ℕ) (k : ℕ) (t : Seen) → Upto name k t → ((i : ℕ) → (disk_of vol st).entry k ≡ named name i → ⊥)
      → t.exists ≡ false → (s : ℕ) → s < k + 1 → (i : ℕ) → (disk_of vol st).entry s ≡ named name i → ⊥
  more_new name k t p n e = below_more (λ (s : ℕ). (i : ℕ) → (disk_of vol st).entry s ≡ named name i → ⊥) k (p.new e) n

  more_there : (name : List ℕ) (k : ℕ) (t : Seen) → Upto name k t → t.exists ≡ true → (s : ℕ) × (s < k + 1) × ((i : ℕ) × ((disk_of vol st).entry s ≡ named name i))
  more_there name k t p e = let x = p.there e in (x.0, omega (arith, x.1), x.2)

  never_none : (o : Option ℕ) (i : ℕ) → option_or o (Some i) ≡ None → ⊥
  never_none None i e = none-some _ (sym e)
  never_none (Some j) i e = none-some _ (sym e)

  upto_free : (name : List ℕ) (k : ℕ) (t : Seen) → (disk_of vol st).entry k ≡ vacant → Upto name k t → Upto name (k + 1) (free_seen k t)
  unfolding free_seen
  upto_free name k t q p =
      let new = more_new name k t p (λ i v. vacant≢named q v) in
      let there = more_there name k t p in
      record { new = new; there = there; full = λ e. absurd (never_none t.free k e) }

  upto_file : (name : List ℕ) (k : ℕ) (t : Seen) (n : List ℕ) (id : ℕ) → (disk_of vol st).entry k ≡ named n id → Upto name k t
      → Upto name (k + 1) (file_seen (same_bytes name n) t)
  unfolding file_seen
  upto_file name k t n id q p =
      let taken : t.free ≡ None → (s : ℕ) → s < k + 1 → (disk_of vol st).entry s ≡ vacant → ⊥
      = λ e. below_more (λ (s : ℕ). (disk_of vol st).entry s ≡ vacant → ⊥) k (p.full e) (λ v. vacant≢named v q) in
      pick_keeps_by (Upto name (k + 1)) (same_bytes name n) _ _
      (λ same.
      record {
        new = λ no. absurd (false≢true (sym no));
        there = λ e. (k, omega arith, (id, q ∙ ap (λ (x : List ℕ). named x id) (sym (same_true name n same))));
        full = taken;
      })
      (λ other.
      record {
        new = more_new name k t p (λ i v. false≢true (sym other ∙ rw (same_name q v) (same_self name)));
        there = more_there name k t p;
        full = taken;
      })

  looks : (name : List ℕ) → Looks name (look_of vol m st name)
  unfolding look_of
  looks name =
      scan_views vol m st ok (looking name) (Upto name) (Looks name) good.whole (λ k t b p q. upto_free name k t q p)
      (λ k t n id b p q. upto_file name k t n id q p) (λ t p. (t, refl, p)) _
      (record { new = λ e. below_none _; there = λ e. absurd (false≢true e); full = λ e. below_none _ })

  pub look_view : (name : List ℕ) → (seen : Seen) × Look vol m st name seen
  look_view name =
      let l = looks name in (
        l.0,
        record {
          answer = l.1;
          new = λ e s i h. l.2.new e s h i;
          there = l.2.there;
          full = l.2.full;
          below = λ {slot} f. (look_free vol m st name l.1 f).below;
          vacant = λ {slot} f. free_view vol st (look_free vol m st name l.1 f);
        },
      )
