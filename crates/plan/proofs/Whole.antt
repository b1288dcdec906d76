-- What writing a whole copy keeps, whatever the writes left: every sector outside the copy, the medium record but for writes left, and the header's
-- numbers. Of a refused one the store value is the given one. Assumes nothing.
use Rattle.std.specs.Prelude.{Err, Ok}
use mathlib.Core.Path.{◌≡◌, refl, sym, ap, ◌∙◌}
use mathlib.Core.List.{List}
use Prim.Native.Nat.{ℕ, ◌≤◌, ◌<◌}
use native.Mathlib.Omega.{arith}
use lib.ListN.{length}
use Rattle.medium.specs.declared.Error.{Error}
use Rattle.medium.specs.declared.Medium.{Medium}
use Rattle.medium.specs.Sector.{sectors_of, WriteOut, write_of}
use Rattle.medium.proofs.Laws.{on_done_keeps, not_done}
use Rattle.medium.specs.Frame.{Kept, Spends}
use Rattle.medium.proofs.Frame.{kept_none, kept_more, kept_wide, kept_sectors, spends_more, write_spends, write_kept}
use Rattle.handles.specs.declared.Header.{Header}
use Rattle.handles.specs.Handles.{body_of, base_of}
use Rattle.handles.proofs.Laws.{base_most}
use Rattle.header.specs.Header.{encode_of, with_crcs}
use Rattle.header.proofs.Fill.{length_encode}
use Rattle.plan.specs.Copy.{Skipped, refused_out, Plan, body_from, Out, free_after, last_of, first_of, copy_out, BodyOut}
use Rattle.plan.proofs.Keeps.{Ready, ready_still, Stays, body_stays}

pub record Copied (p : Plan) (vol : List ℕ) (m : Medium) (o : Out) : Type 0 where
  pub frame : Kept (base_of p.copy) 25 vol o.vol
  pub medium : Spends m o.ans.medium
  pub writer : o.ans.store.writer ≡ p.store.writer
  pub refused : (e : Error) → o.ans.outcome ≡ Err e → o.ans.store ≡ p.store
  pub copy : o.ans.outcome ≡ Ok tt → o.ans.store.copy ≡ p.copy
  pub numbers : o.ans.outcome ≡ Ok tt → o.ans.store.head ≡ with_crcs p.head o.ans.store.head.crcs
  pub free : o.ans.outcome ≡ Ok tt → o.ans.store.free ≡ free_after p vol
  pub count : o.ans.outcome ≡ Ok tt → length o.ans.store.head.crcs ≡ 24

module _ (p : Plan) (vol : List ℕ) (m : Medium) where
  abbrev Frame : List ℕ → Type 0
  Frame v = Kept (base_of p.copy) 25 vol v

  refusal : {v : List ℕ} {n : Medium} {e : Error} → Frame v → Spends m n → Copied p vol m (refused_out p.store v n e)
  refusal f t = record { frame = f; medium = t; writer = refl; refused = λ _ _. refl; copy = not_done; numbers = not_done; free = not_done; count = not_done }

  module _ (r : Ready p vol) (most : p.head.chunks ≤ 2048) (listed : length p.head.crcs ≡ 24) where
    -- a write of the header sector
    head_write : {v : List ℕ} (u : Medium) (bytes : List ℕ) → length bytes ≡ 512 → Frame v → Frame (write_of v u (base_of p.copy) bytes).vol
    head_write {v} u bytes size f =
        let inside : base_of p.copy < sectors_of v = rw (kept_sectors f) (omega (arith, base_most p.copy, r.enough)) in
        kept_more f (kept_wide (omega arith) (omega arith) (write_kept v u (base_of p.copy) bytes size inside))

    last_copied : (skipped : List Skipped) (b : BodyOut) → Frame b.vol → Spends m b.ans.medium → b.ans.head ≡ with_crcs p.head b.ans.head.crcs
        → length b.ans.head.crcs ≡ 24 → Copied p vol m (last_of p (free_after p vol) skipped b.vol b.ans.medium b.ans.head)
    unfolding last_of
    last_copied skipped b f s numbers n =
        let h : Header = b.ans.head in
        let c : h.chunks ≡ p.head.chunks = ap (λ (x : Header). x.chunks) numbers in
        let w : Frame (write_of b.vol b.ans.medium (base_of p.copy) (encode_of h)).vol = head_write b.ans.medium (encode_of h) (length_encode h n (rw c most)) f in
        let t : Spends m (write_of b.vol b.ans.medium (base_of p.copy) (encode_of h)).ans.medium = spends_more s (write_spends _ _ (base_of p.copy) (encode_of h)) in
        on_done_keeps (Copied p vol m) _ _ _
        (λ _. record { frame = w; medium = t; writer = refl; refused = λ _ q. not_done (sym q); copy = λ _. refl; numbers = λ _. numbers; free = λ _. refl; count = λ _. n })
        (λ _ _. refusal w t)

    pub copy_copied : length p.first ≡ 512 → Copied p vol m (copy_out p vol m)
    unfolding copy_out
    copy_copied first =
        let z : WriteOut = first_of p vol m in
        let zf : Frame z.vol = head_write m p.first first (kept_none (base_of p.copy) 25 vol) in
        let zm : Spends m z.ans.medium = write_spends vol m (base_of p.copy) p.first in
        let b : BodyOut = body_from p (body_of p.head.chunks) 0 z.vol z.ans.medium p.head in
        let q : Stays p 0 (body_of p.head.chunks) z.vol z.ans.medium p.head b =
        body_stays p (body_of p.head.chunks) 0 z.vol z.ans.medium p.head (ready_still p vol z.vol zf.size r) (omega arith) in
        let bf : Frame b.vol = kept_more zf (kept_wide (omega arith) (omega arith) q.frame) in
        let bm : Spends m b.ans.medium = spends_more zm q.medium in
        on_done_keeps (Copied p vol m) z.ans.outcome _ _
        (λ _. on_done_keeps (Copied p vol m) b.ans.outcome _ _ (λ _. last_copied _ b bf bm q.numbers (q.count ∙ listed)) (λ _ _. refusal bf bm))
        (λ _ _. refusal zf zm)
