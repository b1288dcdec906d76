-- The copy that stands on a volume is the one that mount takes, and the other way round. Assumes nothing.
use Rattle.std.specs.Prelude.{None}
use Rattle.std.specs.Prelude.{Ok}
use mathlib.Core.Path.{◌≡◌, refl, ap, subst}
use mathlib.Core.Bool.{Bool, true, false, not, ◌&&◌, ◌||◌}
use mathlib.Core.List.{List}
use Prim.Native.Nat.{ℕ, zero, suc, ◌+◌, ◌-◌, ◌≤◌}
use native.Mathlib.Omega.{arith}
use borrow.Author.Tests.{le-ltb, lt-ltb, ltb-true, ltb-false, eqb-true}
use lib.Dec.{eqb, ltb, lit<}
use Rattle.le.specs.Choice.{pick}
use Rattle.le.proofs.Choices.{pick_keeps, pick_keeps_by}
use Rattle.le.proofs.Bools.{and_true}
use Rattle.runs.specs.Run.{same_bytes}
use Rattle.runs.proofs.Tests.{same_true}
use Rattle.medium.specs.declared.Medium.{Medium}
use Rattle.medium.specs.Refusal.{on_done}
use Rattle.medium.specs.Sector.{sectors_of, read_of}
use Rattle.medium.proofs.Laws.{on_done_keeps}
use Rattle.freemap.specs.Map.{unfit_of}
use Rattle.handles.specs.declared.Header.{Header}
use Rattle.handles.specs.declared.Store.{Store}
use Rattle.handles.specs.Handles.{base_of}
use Rattle.header.specs.declared.answers.Copies.{Copies}
use Rattle.header.specs.declared.answers.Current.{Current}
use Rattle.header.specs.Header.{ours}
use Rattle.header.specs.Copies.{is_ours, is_foreign, is_damaged, copy_of, both_of, headers_of, takes_b, taken_of, no_current, choice_of, current_of, mount_of}
use Rattle.header.proofs.Edges.{headers_read}
use Rattle.header.proofs.Accepted.{headers_both, copy_valid}
use Rattle.commit.specs.Commit.{same_head, is_current}
use Rattle.safe.specs.Mounts.{Stands}
use Rattle.safe.proofs.Frame.{clash}

-- ---- what stands is what mount takes

module _ (vol : List ℕ) (h : Header) where
  -- B is not taken beside an A that stands
  pub not_b : Stands vol 0 h → takes_b (both_of (copy_of vol 0) (copy_of vol 32)) ≡ false
  unfolding takes_b base_of pick
  not_b s = rw s.found (go (is_ours (copy_of vol 32).kind) refl)
    where
      go : (t : Bool) → is_ours (copy_of vol 32).kind ≡ t → (t && ltb h.generation (copy_of vol 32).head.generation) ≡ false
      go true q = le-ltb h.generation (copy_of vol 32).head.generation (omega (arith, s.older (copy_of vol 32).head (copy_valid vol 32 q)))
      go false q = refl

  pub yes_b : Stands vol 1 h → takes_b (both_of (copy_of vol 0) (copy_of vol 32)) ≡ true
  unfolding takes_b base_of pick
  yes_b s = rw s.found (go (is_ours (copy_of vol 0).kind) refl)
    where
      go : (t : Bool) → is_ours (copy_of vol 0).kind ≡ t → (not t || ltb (copy_of vol 0).head.generation h.generation) ≡ true
      go true q = lt-ltb (copy_of vol 0).head.generation h.generation (omega (arith, s.older (copy_of vol 0).head (copy_valid vol 0 q)))
      go false q = refl

  -- beside it the other copy's checksums, and whether that is valid
  pub stands_choice : (c : ℕ) → Stands vol c h
      → choice_of (both_of (copy_of vol 0) (copy_of vol 32)) ≡ taken_of c h (copy_of vol (base_of (1 - c))).head (is_ours (copy_of vol (base_of (1 - c))).kind)
  unfolding choice_of base_of pick
  stands_choice zero s = rw (not_b s, s.found)
  stands_choice (suc zero) s = rw (yes_b s, s.found)
  stands_choice (suc (suc c)) s = absurd (let f : ⊥ = omega (arith, s.number) in f)

  -- neither copy is foreign
  not_foreign : (c : ℕ) → Stands vol c h → (is_foreign (copy_of vol 0).kind ≡ false) × (is_foreign (copy_of vol 32).kind ≡ false)
  unfolding base_of pick
  not_foreign zero s = (rw s.found refl, s.known)
  not_foreign (suc zero) s = (s.known, rw s.found refl)
  not_foreign (suc (suc c)) s = absurd (let f : ⊥ = omega (arith, s.number) in f)

  module _ (m : Medium) (a : read_of m 0 ≡ Ok tt) (b : read_of m 32 ≡ Ok tt) where
    pub stands_headers : (c : ℕ) → Stands vol c h → headers_of vol m ≡ both_of (copy_of vol 0) (copy_of vol 32)
    stands_headers c s = let n = not_foreign c s in headers_read vol m s.enough a b n.0 n.1

    pub stands_current : (c : ℕ) → Stands vol c h → current_of vol m ≡ taken_of c h (copy_of vol (base_of (1 - c))).head (is_ours (copy_of vol (base_of (1 - c))).kind)
    unfolding current_of on_done
    stands_current c s = rw (stands_headers c s) (stands_choice c s)

    pub stands_mount : (c : ℕ) → Stands vol c h → mount_of vol m ≡ record { outcome = Ok tt; store = record { copy = c; head = h; writer = None; free = unfit_of } }
    unfolding mount_of taken_of on_done
    stands_mount c s = rw (stands_current c s)

-- where both headers were read, the medium has no further say
pub current_choice : (vol : List ℕ) (m : Medium) → (current_of vol m).outcome ≡ Ok tt → current_of vol m ≡ choice_of (both_of (copy_of vol 0) (copy_of vol 32))
unfolding current_of no_current
current_choice vol m =
    on_done_keeps (λ (r : Current). r.outcome ≡ Ok tt → r ≡ choice_of (both_of (copy_of vol 0) (copy_of vol 32))) (headers_of vol m).outcome _ _
    (λ o _. ap choice_of (headers_both vol m o).same)
    (λ e _. clash refl)

-- ---- and what mount takes stands

module _ (vol : List ℕ) where
  abbrev both : Copies
  both = both_of (copy_of vol 0) (copy_of vol 32)

  valid_b : takes_b both ≡ true → is_ours (copy_of vol 32).kind ≡ true
  unfolding takes_b
  valid_b t = (and_true (is_ours (copy_of vol 32).kind) _ t).0

  b_newer : takes_b both ≡ true → (g : Header) → copy_of vol 0 ≡ ours g → g.generation + 1 ≤ (copy_of vol 32).head.generation
  unfolding takes_b
  b_newer t g e = omega (arith, ltb-true g.generation (copy_of vol 32).head.generation (and_true (is_ours (copy_of vol 32).kind) _ (rw e at t)).1)

  b_older : takes_b both ≡ false → is_ours (copy_of vol 0).kind ≡ true → (g : Header) → copy_of vol 32 ≡ ours g → g.generation + 0 ≤ (copy_of vol 0).head.generation
  unfolding takes_b
  b_older t o g e = omega (arith, ltb-false (copy_of vol 0).head.generation g.generation (rw (e, o) at t))

  abbrev Found : Current → Type 0
  Found r = r.outcome ≡ Ok tt → Stands vol r.copy r.head

  choice_stands : 64 ≤ sectors_of vol → is_foreign (copy_of vol 0).kind ≡ false → is_foreign (copy_of vol 32).kind ≡ false → Found (choice_of both)
  unfolding choice_of taken_of no_current base_of pick
  choice_stands enough fa fb =
      pick_keeps_by Found (takes_b both) _ _
      (λ t _. record { enough = enough; number = lit< tt; found = copy_valid vol 32 (valid_b t); known = fa; older = b_newer t })
      (λ t. pick_keeps_by Found (is_ours (copy_of vol 0).kind) _ _
      (λ o _. record { enough = enough; number = lit< tt; found = copy_valid vol 0 o; known = fb; older = b_older t o })
      (λ _. pick_keeps Found (is_damaged (copy_of vol 0).kind || is_damaged (copy_of vol 32).kind) _ _ (clash refl) (clash refl)))

  module _ (m : Medium) where
    pub current_stands : (current_of vol m).outcome ≡ Ok tt → Stands vol (current_of vol m).copy (current_of vol m).head
    unfolding current_of no_current
    current_stands =
        on_done_keeps Found (headers_of vol m).outcome _ _
        (λ o. let b = headers_both vol m o in rw b.same (choice_stands b.enough b.not_a b.not_b))
        (λ e _. clash refl)

-- ---- so does the store's own copy, where a commit finds it current

head_same : (a b : Header) → same_head a b ≡ true → a ≡ b
unfolding same_head
head_same a b e =
    let p = and_true (eqb a.id b.id) _ e in
    let q = and_true (eqb a.generation b.generation) _ p.1 in
    let r = and_true (eqb a.next_id b.next_id) _ q.1 in
    let s = and_true (eqb a.cursor b.cursor) _ r.1 in
    let t = and_true (eqb a.chunks b.chunks) _ s.1 in
    let u = and_true (eqb a.chunk b.chunk) (same_bytes a.crcs b.crcs) t.1 in
    rw (
      eqb-true a.id b.id p.0,
      eqb-true a.generation b.generation q.0,
      eqb-true a.next_id b.next_id r.0,
      eqb-true a.cursor b.cursor s.0,
      eqb-true a.chunks b.chunks t.0,
      eqb-true a.chunk b.chunk u.0,
      same_true a.crcs b.crcs u.1,
    ) refl

pub own_stands : (vol : List ℕ) (m : Medium) (st : Store) → (current_of vol m).outcome ≡ Ok tt → is_current (current_of vol m) st ≡ true → Stands vol st.copy st.head
unfolding is_current
own_stands vol m st d c =
    let p = and_true (eqb (current_of vol m).copy st.copy) (same_head (current_of vol m).head st.head) c in
    subst (Stands vol st.copy) (head_same _ _ p.1)
    (subst (λ (k : ℕ). Stands vol k (current_of vol m).head) (eqb-true _ _ p.0) (current_stands vol m d))
