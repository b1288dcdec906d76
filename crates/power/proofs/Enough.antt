-- Where the store value is current, every sector reads and enough writes are left, a commit is done: as many as a commit may take, whatever the other
-- copy is; and right after another commit as many as it may take then. Assumes nothing.
use Rattle.std.specs.Prelude.{Ok, Result}
use Rattle.medium.specs.declared.Error.{Error}
use Prim.Native.Nat.{ℕ, zero, suc, ◌+◌, ◌-◌, ◌^◌, ◌≤◌, ◌<◌}
use mathlib.Core.Path.{◌≡◌, refl, sym, ap, subst, ◌∙◌}
use mathlib.Core.Bool.{Bool, true, false}
use mathlib.Core.List.{List}
use native.Mathlib.Nat.{zero-add}
use native.Mathlib.Omega.{arith}
use lib.ListN.{length}
use Rattle.le.specs.Tally.{tally}
use Rattle.le.proofs.Choices.{pick_keeps, pick_false}
use Rattle.le.proofs.Tallies.{tally_le, tally_yes, tally_start}
use Rattle.medium.specs.declared.Medium.{Medium}
use Rattle.medium.specs.Sector.{Readable, WriteOut}
use Rattle.medium.proofs.Laws.{on_done_done}
use Rattle.medium.specs.Frame.{Kept}
use Rattle.medium.proofs.Frame.{kept_more, kept_wide, write_spends, write_kept}
use Rattle.handles.specs.declared.Header.{Header}
use Rattle.handles.specs.declared.Store.{Store}
use Rattle.handles.specs.Handles.{body_of, table_of, base_of}
use Rattle.handles.proofs.Laws.{base_most}
use Rattle.header.specs.Header.{encode_of}
use Rattle.plan.specs.declared.Edit.{Edit}
use Rattle.plan.specs.Edit.{head_after}
use Rattle.plan.specs.Copy.{Plan, Move, unread, matched, put, bad, BodyOut, Out, is_format, due_move, move_of, act_of, body_sector_of, body_from, last_of, first_of, copy_out}
use Rattle.plan.proofs.Keeps.{Stays, sector_stays, ready_still}
use Rattle.commit.specs.Commit.{commit_plan, commit_of}
use Rattle.safe.specs.Copy.{target, body_count, Good}
use Rattle.safe.specs.Inv.{Inv, plan_of}
use Rattle.safe.proofs.Moves.{move_before, good_ready}
use Rattle.safe.proofs.Invs.{inv_check}
use Rattle.safe.proofs.Commit.{plan_good}
use Rattle.writes.specs.Writes.{Most, commit_most}
use Rattle.writes.proofs.Counts.{tally_on}
use Rattle.writes.proofs.Copies.{Leaves, sector_counted, body_counted, every, every_leaves, commit_most_lem}
use Rattle.writes.proofs.Beside.{Beside, own_of, rewrites, leaves, rewrites_few, commit_few}
use Rattle.power.proofs.Spends.{write_some}
use Rattle.power.proofs.FirstCommit.{current_done, commit_is}

-- done, by at most n writes
abbrev pub Within : ℕ → Medium → Result Unit Error → Medium → Type 0
Within n m o u = (o ≡ Ok tt) × Most n m u

-- a move that is no refusal
abbrev Fine : Move → Type 0
Fine unread = Unit {0}
Fine (matched c) = Unit {0}
Fine (put c bytes) = Unit {0}
Fine (bad e) = ⊥

act_done : (p : Plan) (mv : Move) (v : List ℕ) (u : Medium) (h : Header) (k : ℕ) → Fine mv → 1 ≤ u.left → (act_of p mv v u h k).ans.outcome ≡ Ok tt
unfolding act_of
act_done p unread v u h k f l = refl
act_done p (matched c) v u h k f l = refl
act_done p (put c bytes) v u h k f l = (write_some v u (base_of p.copy + 1 + k) bytes l).0
act_done p (bad e) v u h k f l = absurd f

act_unread : (p : Plan) (v : List ℕ) (u : Medium) (h : Header) (k : ℕ) → (act_of p unread v u h k).ans.outcome ≡ Ok tt
unfolding act_of
act_unread p v u h k = refl

module _ (p : Plan) (vol : List ℕ) (m : Medium) (good : Good p vol) (fine : (k : ℕ) → k < body_count p → Fine (move_of p vol m k)) (f : ℕ → Bool) (left : Leaves p f) where
  sector_done : (v : List ℕ) (u : Medium) (h : Header) (k : ℕ) → k < body_count p → Kept (target p) 25 vol v → u.unreadable ≡ m.unreadable
      → (f k ≡ true → 1 ≤ u.left) → (body_sector_of p v u h k).ans.outcome ≡ Ok tt
  unfolding body_sector_of
  sector_done v u h k l kept same some = go (f k) refl
    where
      go : (t : Bool) → f k ≡ t → (act_of p (move_of p v u k) v u h k).ans.outcome ≡ Ok tt
      go true e =
          act_done p (move_of p v u k) v u h k (subst Fine (sym (move_before p vol good k (omega (arith, good.chunks)) kept m u same)) (fine k l)) (some e)
      go false e = ap (λ (mv : Move). (act_of p mv v u h k).ans.outcome) (left k e v u) ∙ act_unread p v u h k

  body_done : (n k : ℕ) (v : List ℕ) (u : Medium) (h : Header) → k + n ≤ body_count p → Kept (target p) 25 vol v → u.unreadable ≡ m.unreadable
      → tally f (k + n) ≤ u.left + tally f k → (body_from p n k v u h).ans.outcome ≡ Ok tt
  unfolding body_from
  body_done zero k v u h fits kept same l = refl
  body_done (suc n) k v u h fits kept same l =
      let s : BodyOut = body_sector_of p v u h k in
      let few : k < 24 = omega (arith, good.chunks) in
      let z : k + suc n ≡ k + 1 + n = omega arith in
      let enough : tally f (k + 1 + n) ≤ u.left + tally f k = rw (← z) l in
      let d = sector_done v u h k (omega arith) kept same (λ e. let y = tally_yes f k e in let on = tally_on f n (k + 1) in omega (arith, y, on, enough)) in
      let stays : Stays p k 1 v u h s = sector_stays p v u h k (ready_still p vol v kept.size (good_ready good)) few in
      let one = sector_counted p f left k v u h in
      rw (on_done_done (body_from p n (k + 1) s.vol s.ans.medium s.ans.head) (λ e. s) d)
      (body_done n (k + 1) s.vol s.ans.medium s.ans.head (omega arith) (kept_more kept (kept_wide (omega arith) (omega arith) stays.frame))
      (stays.medium.unreadable ∙ same) (omega (arith, one, enough)))

  copy_done : tally f (body_count p) + 2 ≤ m.left → (copy_out p vol m).ans.outcome ≡ Ok tt
  unfolding copy_out last_of
  copy_done l =
      let z : WriteOut = first_of p vol m in
      let n : ℕ = body_count p in
      let b : BodyOut = body_from p n 0 z.vol z.ans.medium p.head in
      let s = write_some vol m (target p) p.first (omega arith) in
      let kept : Kept (target p) 1 vol z.vol = write_kept vol m (target p) p.first good.first (omega (arith, base_most p.copy, good.enough)) in
      let t = body_done n 0 z.vol z.ans.medium p.head (omega arith) (kept_wide (omega arith) (omega arith) kept)
      (write_spends vol m (target p) p.first).unreadable (rw (zero-add n) (omega (arith, s.1))) in
      let all = body_counted p f left n 0 z.vol z.ans.medium p.head in
      let some : 1 ≤ b.ans.medium.left = omega (arith, s.1, rw (zero-add n) at all, tally_start f) in
      let w = write_some b.vol b.ans.medium (target p) (encode_of b.ans.head) some in
      ap (λ (o : Out). o.ans.outcome) (on_done_done _ _ s.0 ∙ on_done_done _ _ t ∙ on_done_done _ _ w.0)

-- the body has its checksums and reads, so no move is a refusal
module _ (edit : Edit) (name vol : List ℕ) (m : Medium) (st : Store) (inv : Inv vol st) (r : Readable vol m) (plain : is_format edit ≡ false) where
  due_fine : (k : ℕ) (bytes : List ℕ) → Fine (due_move (plan_of edit name vol m st) k bytes)
  unfolding due_move
  due_fine k bytes = pick_keeps Fine _ _ _ tt tt

  moves_fine : (k : ℕ) → k < body_of st.head.chunks → Fine (move_of (plan_of edit name vol m st) vol m k)
  unfolding move_of commit_plan
  moves_fine k l =
      subst Fine (sym (pick_false _ _ plain))
      (pick_keeps Fine _ _ _ tt (subst Fine (sym (on_done_done _ _ (inv_check vol m st inv r k l))) (due_fine k _)))

  module _ (short : length name ≤ 40) (less : st.head.generation ≡ 2 ^ 64 - 1 → ⊥) where
    commit_done : (f : ℕ → Bool) → Leaves (plan_of edit name vol m st) f → tally f (body_of st.head.chunks) + 2 ≤ m.left → (commit_of edit name vol m st).ans.outcome ≡ Ok tt
    unfolding commit_plan head_after
    commit_done f left l =
        let good = plan_good edit name vol m st inv.ok inv.range.count short in
        ap (λ (o : Out). o.ans.outcome) (commit_is edit name vol m st inv r less) ∙ copy_done (plan_of edit name vol m st) vol m good moves_fine f left l

    pub commit_within : commit_most st.head.chunks ≤ m.left
        → Within (commit_most st.head.chunks) m (commit_of edit name vol m st).ans.outcome (commit_of edit name vol m st).ans.medium
    commit_within l =
        (commit_done every (every_leaves _) (omega (arith, l, tally_le every (body_of st.head.chunks))), commit_most_lem edit name vol m st)

    -- right after another commit
    pub commit_after : {d : ℕ} → Beside d vol st → d + own_of edit + table_of st.head.chunks + 2 ≤ m.left
        → Within (d + own_of edit + table_of st.head.chunks + 2) m (commit_of edit name vol m st).ans.outcome (commit_of edit name vol m st).ans.medium
    commit_after x l =
        let c = current_done edit name vol m st inv r in (
          commit_done (rewrites edit x.may) (leaves edit name vol m st plain x c.0 c.1) (omega (arith, l, rewrites_few edit name vol m st plain x)),
          commit_few edit name vol m st plain x,
        )
