-- Writing a copy never gives 11. Assumes nothing.
use Rattle.std.specs.Prelude.{Err}
use mathlib.Core.List.{List}
use Prim.Native.Nat.{ℕ, zero, suc, ◌+◌}
use Rattle.le.proofs.Choices.{pick_keeps}
use Rattle.medium.specs.declared.Medium.{Medium}
use Rattle.medium.specs.Sector.{WriteOut, write_of}
use Rattle.medium.proofs.Laws.{on_done_keeps}
use Rattle.medium.proofs.Stale.{NotStale, no_stale, write_not_stale}
use Rattle.handles.specs.declared.Header.{Header}
use Rattle.handles.specs.Body.{check_of}
use Rattle.handles.specs.Handles.{body_of, base_of}
use Rattle.handles.proofs.Laws.{check_not_stale}
use Rattle.header.specs.Header.{encode_of}
use Rattle.plan.specs.Copy.{Plan, Move, unread, matched, put, bad, due_move, move_of, BodyOut, act_of, body_sector_of, body_from, Out, last_of, first_of, copy_out}

abbrev Moves : Move → Type 0
Moves unread = Unit
Moves (matched c) = Unit
Moves (put c bytes) = Unit
Moves (bad e) = NotStale (Err e)

module _ (p : Plan) where
  moves : (vol : List ℕ) (m : Medium) (k : ℕ) → Moves (move_of p vol m k)
  unfolding move_of due_move
  moves vol m k =
      pick_keeps Moves _ _ _ tt
      (pick_keeps Moves _ _ _ tt
      (on_done_keeps Moves (check_of vol m p.store k) _ _ (λ _. pick_keeps Moves _ _ _ tt tt) (λ e q. no_stale (check_not_stale vol m p.store k) q)))

  act_not_stale : (move : Move) (vol : List ℕ) (m : Medium) (h : Header) (k : ℕ) → Moves move → NotStale (act_of p move vol m h k).ans.outcome
  unfolding act_of
  act_not_stale unread vol m h k n = tt
  act_not_stale (matched c) vol m h k n = tt
  act_not_stale (put c bytes) vol m h k n = write_not_stale vol m (base_of p.copy + 1 + k) bytes
  act_not_stale (bad e) vol m h k n = n

  body_not_stale : (n k : ℕ) (vol : List ℕ) (m : Medium) (h : Header) → NotStale (body_from p n k vol m h).ans.outcome
  unfolding body_from body_sector_of
  body_not_stale zero k vol m h = tt
  body_not_stale (suc n) k vol m h =
      let s : BodyOut = body_sector_of p vol m h k in
      on_done_keeps (λ (b : BodyOut). NotStale b.ans.outcome) s.ans.outcome _ _ (λ _. body_not_stale n (k + 1) s.vol s.ans.medium s.ans.head)
      (λ e _. act_not_stale (move_of p vol m k) vol m h k (moves vol m k))

  pub copy_not_stale : (vol : List ℕ) (m : Medium) → NotStale (copy_out p vol m).ans.outcome
  unfolding copy_out last_of
  copy_not_stale vol m =
      let z : WriteOut = first_of p vol m in
      let n : ℕ = body_of p.head.chunks in
      let b : BodyOut = body_from p n 0 z.vol z.ans.medium p.head in
      let w : WriteOut = write_of b.vol b.ans.medium (base_of p.copy) (encode_of b.ans.head) in
      on_done_keeps (λ (o : Out). NotStale o.ans.outcome) z.ans.outcome _ _
      (λ _. on_done_keeps (λ (o : Out). NotStale o.ans.outcome) b.ans.outcome _ _
      (λ _. on_done_keeps (λ (o : Out). NotStale o.ans.outcome) w.ans.outcome _ _ (λ _. tt)
      (λ e q. no_stale (write_not_stale b.vol b.ans.medium (base_of p.copy) (encode_of b.ans.head)) q))
      (λ e q. no_stale (body_not_stale n 0 z.vol z.ans.medium p.head) q))
      (λ e q. no_stale (write_not_stale vol m (base_of p.copy) p.first) q)
