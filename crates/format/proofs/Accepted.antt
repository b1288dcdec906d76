-- What an accepted format hands out: a store that passes refusal 3 and whose header a sector can hold. Assumes nothing.
use Rattle.std.specs.Prelude.{None}
use Rattle.std.specs.Prelude.{Ok}
use mathlib.Core.Path.{◌≡◌, refl, ap}
use mathlib.Core.Bool.{true, ◌&&◌}
use mathlib.Core.List.{List}
use Prim.Native.Nat.{ℕ, ◌+◌, ◌-◌, ◌^◌, ◌≤◌, ◌<◌}
use native.Mathlib.Omega.{arith}
use borrow.Author.Tests.{eqb-false, leb-true}
use lib.Dec.{eqb, leb}
use Rattle.le.proofs.Choices.{pick_keeps_by}
use Rattle.le.proofs.Bools.{and_true}
use Rattle.medium.specs.declared.Medium.{Medium}
use Rattle.medium.specs.Sector.{sectors_of, WriteOut, write_of}
use Rattle.medium.proofs.Laws.{on_done_keeps, not_done}
use Rattle.le.specs.Choice.{pick}
use Rattle.freemap.specs.Map.{full_of}
use Rattle.freemap.proofs.Rule.{full_ok}
use Rattle.handles.specs.declared.Header.{Header}
use Rattle.handles.specs.declared.Store.{Store}
use Rattle.handles.specs.Handles.{body_of, base_of, store_ok, no_store}
use Rattle.handles.proofs.Laws.{next_fits, store_ok_lem}
use Rattle.header.specs.declared.answers.Copies.{Copies}
use Rattle.header.specs.Copies.{headers_of}
use Rattle.header.specs.Header.{encode_of, unmarked_of, Bytes, InRange}
use Rattle.header.proofs.Accepted.{Both, headers_both}
use Rattle.plan.specs.Copy.{BodyOut, Out, is_format, mark_after, map_after, last_of, copy_out}
use Rattle.format.specs.Format.{chunks_of, copy_for, newest_of, format_head, Zeroed, format_plan, made_of, format_over, format_of}
use Rattle.format.proofs.Crcs.{head_zeroed}
use Rattle.format.proofs.Numbers.{copy_lt, head_sane, head_range, newest_lt}
use Rattle.format.proofs.Writes.{zeroed_from, zero_head}

-- ---- the store is the one that was written

abbrev pub store_for : ℕ → Header → Store
store_for copy h = record { copy = copy; head = h; writer = None; free = full_of h.chunks }

pub made_store : (copy : ℕ) (h : Header) → Zeroed h → (vol : List ℕ) (m : Medium) → (made_of copy h vol m).ans.outcome ≡ Ok tt → (made_of copy h vol m).ans.store ≡ store_for copy h
unfolding copy_out last_of map_after mark_after is_format pick format_plan no_store
made_store copy h sums vol m =
    let z : WriteOut = write_of vol m (base_of copy) (unmarked_of h) in
    let b : BodyOut = zeroed_from copy h (body_of h.chunks) 0 z.vol z.ans.medium in
    let e : b.ans.head ≡ h = zero_head copy h sums (body_of h.chunks) 0 z.vol z.ans.medium (omega arith) in
    on_done_keeps Right z.ans.outcome _ _
    (λ _. on_done_keeps Right b.ans.outcome _ _
    (λ _. on_done_keeps Right (write_of b.vol b.ans.medium (base_of copy) (encode_of b.ans.head)).ans.outcome _ _ (λ _ _. ap with_map e) (λ e _. not_done))
    (λ e _. not_done))
    (λ e _. not_done)
  where
    Right : Out → Type 0
    Right o = o.ans.outcome ≡ Ok tt → o.ans.store ≡ store_for copy h

    with_map : Header → Store
    with_map x = record { copy = copy; head = x; writer = None; free = full_of h.chunks }

-- what the tests on the way say
pub record Made (size seed : ℕ) (vol : List ℕ) (m : Medium) (st : Store) : Type 0 where
  pub headers : (headers_of vol m).outcome ≡ Ok tt
  pub size_least : 1 ≤ size
  pub size_most : size ≤ 512
  pub some : chunks_of (sectors_of vol) size ≡ 0 → ⊥
  pub less : newest_of (headers_of vol m) ≡ 2 ^ 64 - 1 → ⊥
  pub store : st ≡ store_for (copy_for (headers_of vol m)) (format_head (headers_of vol m) m (chunks_of (sectors_of vol) size) size seed)

module _ (size seed : ℕ) (vol : List ℕ) (m : Medium) where
  abbrev Right : Out → Type 0
  Right o = o.ans.outcome ≡ Ok tt → Made size seed vol m o.ans.store

  pub format_made : (format_of size seed vol m).ans.outcome ≡ Ok tt → Made size seed vol m (format_of size seed vol m).ans.store
  unfolding format_of format_over
  format_made =
      let c : Copies = headers_of vol m in
      let n : ℕ = chunks_of (sectors_of vol) size in
      pick_keeps_by Right (leb 1 size && leb size 512) _ _
      (λ t. on_done_keeps Right c.outcome _ _
      (λ q. pick_keeps_by Right (eqb n 0) _ _ (λ _. not_done)
      (λ z. pick_keeps_by Right (eqb (newest_of c) (2 ^ 64 - 1)) _ _ (λ _. not_done)
      (λ l d. let s = and_true (leb 1 size) (leb size 512) t in
      record {
        headers = q;
        size_least = leb-true 1 size s.0;
        size_most = leb-true size 512 s.1;
        some = eqb-false n 0 z;
        less = eqb-false (newest_of c) (2 ^ 64 - 1) l;
        store = made_store (copy_for c) (format_head c m n size seed) (head_zeroed c m n size seed) vol m d;
      })))
      (λ e _. not_done))
      (λ _. not_done)

-- ---- the store of an accepted format

abbrev pub store_after : ℕ → ℕ → List ℕ → Medium → Store
store_after size seed vol m = (format_of size seed vol m).ans.store

module _ (size seed : ℕ) (vol : List ℕ) (m : Medium) (accepted : (format_of size seed vol m).ans.outcome ≡ Ok tt) where
  facts : Made size seed vol m (store_after size seed vol m)
  facts = format_made size seed vol m accepted

  both : Both vol (headers_of vol m)
  both = headers_both vol m facts.headers

  -- nothing has it open, and its first file gets id 1
  pub format_fresh : ((store_after size seed vol m).copy < 2) × ((store_after size seed vol m).writer ≡ None) × ((store_after size seed vol m).head.next_id ≡ 1) × ((store_after size seed vol m).head.cursor ≡ 0)
  unfolding format_head
  format_fresh = rw facts.store (copy_lt (headers_of vol m), refl, refl, refl)

  pub format_ok : store_ok (store_after size seed vol m) (sectors_of vol) ≡ true
  format_ok =
      let sane = head_sane (headers_of vol m) m (sectors_of vol) size seed facts.size_most both.enough facts.size_least facts.some in
      rw facts.store (store_ok_lem _ (sectors_of vol) (copy_lt (headers_of vol m)) sane (full_ok _))

  pub format_range : Bytes vol → InRange (store_after size seed vol m).head
  format_range small =
      let g : newest_of (headers_of vol m) < 2 ^ 64 = rw both.same (newest_lt vol small both.enough) in
      let l : newest_of (headers_of vol m) + 1 < 2 ^ 64 = next_fits (newest_of (headers_of vol m)) g facts.less in
      rw facts.store (head_range (headers_of vol m) m (sectors_of vol) size seed facts.size_most l)
