-- A copy written anew takes a write for each body sector that is not left unread, at most, and two for its header, on any volume and wherever it stops;
-- and so does a commit. Assumes nothing.
use Rattle.std.specs.Prelude.{Ok}
use Prim.Native.Nat.{ℕ, zero, suc, ◌+◌, ◌-◌, ◌^◌, ◌≤◌}
use mathlib.Core.Path.{◌≡◌, refl, subst}
use mathlib.Core.Bool.{Bool, true, false, true≢false}
use mathlib.Core.List.{List}
use native.Mathlib.Nat.{add-zero, zero-add}
use native.Mathlib.Omega.{arith}
use lib.Dec.{eqb}
use Rattle.le.specs.Tally.{tally}
use Rattle.le.proofs.Choices.{pick_keeps, pick_keeps_by}
use Rattle.le.proofs.Tallies.{tally_le, tally_yes, tally_no}
use Rattle.medium.specs.declared.Medium.{Medium}
use Rattle.medium.specs.declared.Written.{Written}
use Rattle.medium.specs.Sector.{spend_of, WriteOut, write_of}
use Rattle.medium.proofs.Laws.{on_done_keeps}
use Rattle.handles.specs.declared.Header.{Header}
use Rattle.handles.specs.declared.Store.{Store}
use Rattle.handles.specs.Handles.{body_of, base_of}
use Rattle.header.specs.Header.{encode_of}
use Rattle.header.specs.Copies.{current_of}
use Rattle.plan.specs.declared.Edit.{Edit}
use Rattle.plan.specs.Edit.{head_after}
use Rattle.plan.specs.Copy.{Plan, Move, unread, matched, put, bad, BodyOut, Out, move_of, act_of, body_sector_of, body_from, last_of, first_of, copy_out}
use Rattle.commit.specs.Commit.{commit_plan, is_current, commit_of}
use Rattle.writes.specs.Writes.{Most, commit_most}
use Rattle.writes.proofs.Counts.{tally_on}

-- ---- one write

pub write_most : (vol : List ℕ) (m : Medium) (k : ℕ) (bytes : List ℕ) → Most 1 m (write_of vol m k bytes).ans.medium
unfolding write_of spend_of
write_most vol m k bytes = pick_keeps (λ (w : Written). Most 1 m w.medium) (eqb m.left 0) _ _ (omega arith) (omega arith)

-- ---- the body

act_most : (p : Plan) (move : Move) (vol : List ℕ) (m : Medium) (h : Header) (k : ℕ) → Most 1 m (act_of p move vol m h k).ans.medium
unfolding act_of
act_most p unread vol m h k = omega arith
act_most p (matched c) vol m h k = omega arith
act_most p (bad e) vol m h k = omega arith
act_most p (put c bytes) vol m h k = write_most vol m (base_of p.copy + 1 + k) bytes

act_unread : (p : Plan) (move : Move) (vol : List ℕ) (m : Medium) (h : Header) (k : ℕ) → move ≡ unread → Most 0 m (act_of p move vol m h k).ans.medium
unfolding act_of
act_unread p move vol m h k e = rw e (omega arith)

-- a plan that leaves unread whatever f does not count
abbrev pub Leaves : Plan → (ℕ → Bool) → Type 0
Leaves p f = (k : ℕ) → f k ≡ false → (vol : List ℕ) (m : Medium) → move_of p vol m k ≡ unread

module _ (p : Plan) (f : ℕ → Bool) (leaves : Leaves p f) where
  abbrev Counted : ℕ → ℕ → Medium → BodyOut → Type 0
  Counted k i m o = m.left + tally f k ≤ o.ans.medium.left + tally f i

  pub sector_counted : (k : ℕ) (vol : List ℕ) (m : Medium) (h : Header) → Counted k (k + 1) m (body_sector_of p vol m h k)
  unfolding body_sector_of
  sector_counted k vol m h = go (f k) refl
    where
      go : (t : Bool) → f k ≡ t → Counted k (k + 1) m (act_of p (move_of p vol m k) vol m h k)
      go true e = let x = act_most p (move_of p vol m k) vol m h k in let y = tally_yes f k e in omega (arith, x, y)
      go false e = let x = act_unread p (move_of p vol m k) vol m h k (leaves k e vol m) in let y = tally_no f k e in omega (arith, x, y)

  pub body_counted : (n k : ℕ) (vol : List ℕ) (m : Medium) (h : Header) → Counted k (k + n) m (body_from p n k vol m h)
  unfolding body_from
  body_counted zero k vol m h = rw (add-zero k) (omega arith)
  body_counted (suc n) k vol m h =
      let s : BodyOut = body_sector_of p vol m h k in
      let one = sector_counted k vol m h in
      let more = body_counted n (k + 1) s.vol s.ans.medium s.ans.head in
      let on = tally_on f n (k + 1) in
      let z : k + suc n ≡ k + 1 + n = omega arith in
      rw z (on_done_keeps (Counted k (k + 1 + n) m) s.ans.outcome _ _ (λ _. omega (arith, one, more)) (λ e _. omega (arith, one, on)))

  -- ---- the copy

  pub copy_counted : (vol : List ℕ) (m : Medium) → Most (tally f (body_of p.head.chunks) + 2) m (copy_out p vol m).ans.medium
  unfolding copy_out last_of
  copy_counted vol m =
      let n : ℕ = body_of p.head.chunks in
      let P : Out → Type 0 = λ o. Most (tally f n + 2) m o.ans.medium in
      let z : WriteOut = first_of p vol m in
      let b : BodyOut = body_from p n 0 z.vol z.ans.medium p.head in
      let w : WriteOut = write_of b.vol b.ans.medium (base_of p.copy) (encode_of b.ans.head) in
      let first = write_most vol m (base_of p.copy) p.first in
      let body : Counted 0 n z.ans.medium b = subst (λ (i : ℕ). Counted 0 i z.ans.medium b) (zero-add n) (body_counted n 0 z.vol z.ans.medium p.head) in
      let last = write_most b.vol b.ans.medium (base_of p.copy) (encode_of b.ans.head) in
      on_done_keeps P z.ans.outcome _ _
      (λ _. on_done_keeps P b.ans.outcome _ _
      (λ _. on_done_keeps P w.ans.outcome _ _ (λ _. omega (arith, first, body, last)) (λ e _. omega (arith, first, body, last)))
      (λ e _. omega (arith, first, body)))
      (λ e _. omega (arith, first))

-- ---- each of them may be written

abbrev pub every : ℕ → Bool
every k = true

pub every_leaves : (p : Plan) → Leaves p every
every_leaves p k e = absurd (true≢false e)

pub copy_most : (p : Plan) (vol : List ℕ) (m : Medium) → Most (commit_most p.head.chunks) m (copy_out p vol m).ans.medium
copy_most p vol m =
    let x = copy_counted p every (every_leaves p) vol m in
    let y = tally_le every (body_of p.head.chunks) in
    omega (arith, x, y)

-- ---- the commit

module _ (edit : Edit) (name vol : List ℕ) (m : Medium) (st : Store) where
  pub commit_counted : (f : ℕ → Bool)
      → ((current_of vol m).outcome ≡ Ok tt → is_current (current_of vol m) st ≡ true → Leaves (commit_plan (current_of vol m) edit name st) f)
      → Most (tally f (body_of st.head.chunks) + 2) m (commit_of edit name vol m st).ans.medium
  unfolding commit_of commit_plan head_after
  commit_counted f leaves =
      let P : Out → Type 0 = λ o. Most (tally f (body_of st.head.chunks) + 2) m o.ans.medium in
      on_done_keeps P (current_of vol m).outcome _ _
      (λ d. pick_keeps_by P (is_current (current_of vol m) st) _ _
      (λ c. pick_keeps P (eqb st.head.generation (2 ^ 64 - 1)) _ _ (omega arith) (copy_counted (commit_plan (current_of vol m) edit name st) f (leaves d c) vol m))
      (λ _. omega arith))
      (λ e _. omega arith)

  pub commit_most_lem : Most (commit_most st.head.chunks) m (commit_of edit name vol m st).ans.medium
  commit_most_lem =
      let x = commit_counted every (λ _ _. every_leaves _) in
      let y = tally_le every (body_of st.head.chunks) in
      omega (arith, x, y)
