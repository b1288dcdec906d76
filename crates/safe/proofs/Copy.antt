-- A copy written anew, with any number of writes left: what it leaves stopped, and what it leaves finished. Assumes nothing.
use Rattle.std.specs.Prelude.{Err, Ok}
use mathlib.Core.Path.{◌≡◌, refl, sym, ap, ◌∙◌}
use mathlib.Core.List.{List}
use mathlib.Core.Logic.{◌⊎◌, inr}
use Prim.Native.Nat.{ℕ, ◌<◌, ◌≤◌}
use native.Mathlib.Omega.{arith}
use lib.ListN.{length, get_or}
use Rattle.medium.specs.declared.Error.{Error}
use Rattle.medium.specs.declared.Medium.{Medium}
use Rattle.medium.specs.Sector.{sectors_of, sector_at, WriteOut, write_of}
use Rattle.medium.specs.Frame.{Kept, Spends}
use Rattle.medium.proofs.Laws.{on_done_keeps}
use Rattle.medium.proofs.Frame.{kept_none, kept_more, kept_wide, kept_sectors, write_spends, write_there, write_kept}
use Rattle.handles.specs.declared.Header.{Header}
use Rattle.handles.proofs.Laws.{base_most}
use Rattle.header.specs.Header.{encode_of, with_crcs}
use Rattle.header.proofs.Fill.{length_encode}
use Rattle.plan.specs.Copy.{Skipped, Plan, Out, move_of, body_from, free_after, last_of, copy_out, BodyOut}
use Rattle.plan.proofs.Order.{copy_order}
use Rattle.safe.specs.Copy.{target, target_at, body_count, Good, Made, Finished}
use Rattle.safe.proofs.Frame.{clash}
use Rattle.plan.proofs.Whole.{Copied, copy_copied}
use Rattle.safe.proofs.Moves.{good_ready}
use Rattle.safe.proofs.Body.{Left, made_same, body_left}

-- the body ended with the header h
record Ended (p : Plan) (vol : List ℕ) (m : Medium) (v : List ℕ) (h : Header) : Type 0 where
  head : h ≡ with_crcs p.head h.crcs
  count : length h.crcs ≡ 24
  past : (k : ℕ) → body_count p ≤ k → get_or h.crcs k 0 ≡ get_or p.head.crcs k 0
  made : (k : ℕ) → k < body_count p
      → Made (move_of p vol m k) (sector_at vol (target_at p k)) (get_or p.head.crcs k 0) (sector_at v (target_at p k)) (get_or h.crcs k 0)

module _ (p : Plan) (vol : List ℕ) (m : Medium) (good : Good p vol) where
  copied : Copied p vol m (copy_out p vol m)
  copied = copy_copied p vol m (good_ready good) good.chunks good.count good.first

  -- ---- the laws

  -- the length, and every sector outside the copy that is written, are as they were
  pub copy_frame : Kept (target p) 25 vol (copy_out p vol m).vol
  copy_frame = copied.frame

  -- of the medium record only writes left changes
  pub copy_used : Spends m (copy_out p vol m).ans.medium
  copy_used = copied.medium

  -- refused: the store value as given; and nothing is written, or the copy's header sector holds the first image
  pub copy_stopped : {e : Error} → (copy_out p vol m).ans.outcome ≡ Err e
      → ((copy_out p vol m).ans.store ≡ p.store) × (((copy_out p vol m).vol ≡ vol) ⊎ (sector_at (copy_out p vol m).vol (target p) ≡ p.first))
  copy_stopped {e} q = (copied.refused e q, copy_order p vol m (good_ready good) good.chunks good.first e q)

  -- accepted: every move was made, and the header written
  abbrev Right : Out → Type 0
  Right o = o.ans.outcome ≡ Ok tt → Finished p vol m o.vol o.ans.store

  room : {v : List ℕ} → Kept (target p) 25 vol v → target p < sectors_of v
  room kept = rw (kept_sectors kept) (omega (arith, base_most p.copy, good.enough))

  -- the last write
  last_finished : (skipped : List Skipped) (v : List ℕ) (u : Medium) (h : Header) → Kept (target p) 25 vol v → Ended p vol m v h → Right (last_of p (free_after p vol) skipped v u h)
  unfolding last_of
  last_finished skipped v u h frame e =
      let most : h.chunks ≤ 2048 = rw (ap (λ (x : Header). x.chunks) e.head) (omega (arith, good.chunks)) in
      let size : length (encode_of h) ≡ 512 = length_encode h e.count most in
      let f : Kept (target p) 1 v (write_of v u (target p) (encode_of h)).vol = write_kept v u (target p) (encode_of h) size (room frame) in
      on_done_keeps Right _ _ _
      (λ q _. record {
        store = refl;
        head = e.head;
        count = e.count;
        header = write_there v u (target p) (encode_of h) size (room frame) q;
        past = e.past;
        made = λ k l. made_same (move_of p vol m k) refl refl (sym (f.same (target_at p k) (inr (omega arith)))) refl (e.made k l);
      })
      (λ x _. clash refl)

  pub copy_finished : (copy_out p vol m).ans.outcome ≡ Ok tt → Finished p vol m (copy_out p vol m).vol (copy_out p vol m).ans.store
  unfolding copy_out
  copy_finished =
      let z : WriteOut = write_of vol m (target p) p.first in
      let n : ℕ = body_count p in
      let b : BodyOut = body_from p n 0 z.vol z.ans.medium p.head in
      let one : Kept (target p) 1 vol z.vol = write_kept vol m (target p) p.first good.first (room (kept_none (target p) 25 vol)) in
      let whole : Kept (target p) 25 vol z.vol = kept_wide (omega arith) (omega arith) one in
      let l : Left p (move_of p vol m) 0 n z.vol z.ans.medium p.head b =
      body_left p vol m good n 0 z.vol z.ans.medium p.head (omega (arith, good.chunks)) whole (write_spends vol m (target p) p.first).unreadable good.count in
      let frame : Kept (target p) 25 vol b.vol = kept_more whole (kept_wide (omega arith) (omega (arith, good.chunks)) l.stays.frame) in
      let ended : b.ans.outcome ≡ Ok tt → Ended p vol m b.vol b.ans.head = λ q.
      record {
        head = l.stays.numbers;
        count = l.stays.count ∙ good.count;
        past = λ k a. l.rest k (inr (omega arith));
        made = λ k a. made_same (move_of p vol m k) (one.same (target_at p k) (inr (omega arith))) refl refl refl (l.made q k (omega arith) (omega arith));
      } in
      on_done_keeps Right _ _ _
      (λ _. on_done_keeps Right _ _ _ (λ d. last_finished _ b.vol b.ans.medium b.ans.head frame (ended d)) (λ e _. clash refl))
      (λ e _. clash refl)
