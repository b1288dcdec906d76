-- A format, whatever the writes left: refused it leaves a store that was there, accepted it leaves an empty one. Assumes nothing.
use Rattle.std.specs.Prelude.{Err, Ok}
use mathlib.Core.Path.{◌≡◌, refl, sym, ap, ◌∙◌}
use mathlib.Core.Bool.{Bool, true, false, ◌&&◌}
use mathlib.Core.List.{List}
use Prim.Native.Nat.{ℕ, zero, suc, ◌+◌, ◌-◌, ◌^◌, ◌<◌, ◌≤◌}
use native.Mathlib.Omega.{arith}
use borrow.Author.Tests.{leb-true, eqb-true, eqb-false}
use lib.Dec.{eqb, leb, lit<, lit≤}
use lib.ListN.{length}
use Rattle.le.specs.Choice.{pick}
use Rattle.le.proofs.Choices.{pick_keeps, pick_keeps_by}
use Rattle.le.proofs.Bools.{and_true}
use Rattle.medium.specs.declared.Error.{Error}
use Rattle.medium.specs.declared.Error.TheVariants.{Range, Spent}
use Rattle.medium.specs.declared.Medium.{Medium}
use Rattle.medium.specs.Sector.{sectors_of}
use Rattle.medium.proofs.Laws.{on_done_keeps}
use Rattle.medium.proofs.Frame.{spends_none}
use Rattle.freemap.specs.Map.{full_of}
use Rattle.freemap.proofs.Rule.{full_ok}
use Rattle.handles.specs.declared.Header.{Header}
use Rattle.handles.specs.declared.Store.{Store}
use Rattle.handles.specs.Handles.{body_of, base_of, sane_of, no_store}
use Rattle.handles.proofs.Laws.{Sane, sane_facts, next_fits}
use Rattle.header.specs.declared.answers.Copies.{Copies}
use Rattle.header.specs.Header.{ours, Bytes}
use Rattle.header.specs.Copies.{is_ours, is_foreign, copy_of, both_of, headers_of, takes_b, same_store}
use Rattle.header.proofs.Accepted.{Both, headers_both, copy_valid}
use Rattle.header.proofs.Fill.{length_unmarked}
use Rattle.header.proofs.Range.{no_way}
use Rattle.plan.specs.Copy.{Plan, Out, is_format, mark_after, map_after, refused_out, copy_out}
use Rattle.format.specs.Format.{chunks_of, copy_for, newest_of, format_head, format_plan, format_over, format_of}
use Rattle.format.proofs.Crcs.{length_crcs}
use Rattle.format.proofs.Absent.{format_first}
use Rattle.format.proofs.Ids.{id_fresh, neither_has}
use Rattle.format.proofs.Numbers.{copy_lt, chunks_most, head_sane, head_range}
use Rattle.safe.specs.Copy.{Good, Tied}
use Rattle.safe.specs.Mounts.{Stands, Newest}
use Rattle.safe.specs.Inv.{Inv, Numbered, FormatStopped, FormatMade}
use Rattle.safe.proofs.Frame.{clash, body_beside}
use Rattle.safe.proofs.Moves.{due_format}
use Rattle.safe.proofs.Copy.{copy_frame, copy_used, copy_stopped, copy_finished}
use Rattle.safe.proofs.Current.{not_b, yes_b}
use Rattle.safe.proofs.Mounts.{stopped_target, stopped_stands}
use Rattle.safe.proofs.Ranged.{ranged_stopped, ranged_finished}
use Rattle.safe.proofs.Sums.{format_distinct, finished_body}
use Rattle.safe.proofs.Bodies.{format_tied}
use Rattle.safe.proofs.Invs.{inv_numbered, bytes_numbered, kept_records, stopped_inv, finished_inv}

-- ---- which copy is written

abbrev both : List ℕ → Copies
both vol = both_of (copy_of vol 0) (copy_of vol 32)

-- a copy beside the one written is of no larger generation than the newest
pub copy_older : (vol : List ℕ) (g : Header) → copy_of vol (base_of (1 - copy_for (both vol))) ≡ ours g → g.generation ≤ newest_of (both vol)
unfolding copy_for newest_of takes_b base_of pick
copy_older vol g = go (takes_b (both vol)) (is_ours (copy_of vol 0).kind) refl refl
  where
    go : (t u : Bool) → takes_b (both vol) ≡ t → is_ours (copy_of vol 0).kind ≡ u
        → copy_of vol (base_of (1 - pick t 0 (pick u 1 0))) ≡ ours g → g.generation ≤ pick t (copy_of vol 32).head.generation (pick u (copy_of vol 0).head.generation 0)
    go true u a b e = rw e (omega arith)
    go false true a b e = rw e (omega arith)
    go false false a b e = no_way (rw (e, b) at (sym a))

-- beside a store that stands, the copy written is the other one
module _ (vol : List ℕ) (h : Header) where
  pub copy_other : (c : ℕ) → Stands vol c h → c + copy_for (both vol) ≡ 1
  unfolding copy_for base_of pick
  copy_other zero s = rw (not_b vol h s, s.found)
  copy_other (suc zero) s = rw (yes_b vol h s)
  copy_other (suc (suc c)) s = absurd (let f : ⊥ = omega (arith, s.number) in f)

  -- and its generation the newest
  pub newest_is : (c : ℕ) → Stands vol c h → newest_of (both vol) ≡ h.generation
  unfolding newest_of base_of pick
  newest_is zero s = rw (not_b vol h s, s.found)
  newest_is (suc zero) s = rw (yes_b vol h s, s.found)
  newest_is (suc (suc c)) s = absurd (let f : ⊥ = omega (arith, s.number) in f)

same_id : (h g : Header) → same_store h g ≡ true → h.id ≡ g.id
unfolding same_store
same_id h g t = eqb-true h.id g.id (and_true (eqb h.id g.id) _ t).0

-- ---- the ways to an answer

-- what the tests on the way say
record Asked (size : ℕ) (vol : List ℕ) (m : Medium) : Type 0 where
  headers : (headers_of vol m).outcome ≡ Ok tt
  least : 1 ≤ size
  most : size ≤ 512
  some : chunks_of (sectors_of vol) size ≡ 0 → ⊥
  less : newest_of (both vol) ≡ 2 ^ 64 - 1 → ⊥

module _ (size seed : ℕ) (vol : List ℕ) (m : Medium) where
  -- the header to be written, and the plan
  abbrev head : Header
  head = format_head (both vol) m (chunks_of (sectors_of vol) size) size seed

  abbrev plan : Plan
  plan = format_plan (copy_for (both vol)) head

  ways : (P : Out → Type 0) → ((e : Error) → P (refused_out no_store vol m e)) → (Asked size vol m → P (copy_out plan vol m)) → P (format_of size seed vol m)
  unfolding format_of format_over
  ways P none made =
      pick_keeps_by P (leb 1 size && leb size 512) _ _
      (λ t. on_done_keeps P (headers_of vol m).outcome _ _
      (λ q. let b : Both vol (headers_of vol m) = headers_both vol m q in
      rw b.same
      (pick_keeps_by P (eqb (chunks_of (sectors_of vol) size) 0) _ _ (λ _. none Range)
      (λ z. pick_keeps_by P (eqb (newest_of (both vol)) (2 ^ 64 - 1)) _ _ (λ _. none Spent)
      (λ l. let s = and_true (leb 1 size) (leb size 512) t in
      made (record { headers = q; least = leb-true 1 size s.0; most = leb-true size 512 s.1; some = eqb-false _ _ z; less = eqb-false _ _ l })))))
      (λ e _. none e))
      (λ _. none Range)

  -- ---- its plan meets the premises

  module _ (a : Asked size vol m) where
    read : Both vol (headers_of vol m)
    read = headers_both vol m a.headers

    new_sane : sane_of head (sectors_of vol) ≡ true
    new_sane = head_sane (both vol) m (sectors_of vol) size seed a.most read.enough a.least a.some

    sane : Sane head (sectors_of vol)
    sane = sane_facts head (sectors_of vol) new_sane

    count : length head.crcs ≡ 24
    unfolding format_head
    count = length_crcs (body_of (chunks_of (sectors_of vol) size)) (omega (arith, chunks_most (sectors_of vol) size))

    good : Good plan vol
    unfolding format_plan is_format
    good =
        record {
          enough = read.enough;
          chunks = sane.chunks_most;
          count = count;
          first = length_unmarked head count sane.chunks_most;
          name = lit≤ tt;
          own = λ f. no_way (sym f);
        }

    tied : Tied plan vol
    unfolding format_plan is_format
    tied = format_tied plan vol refl refl

    -- neither copy is foreign
    beside_known : is_foreign (copy_of vol (base_of (1 - copy_for (both vol)))).kind ≡ false
    unfolding base_of
    beside_known = pick_keeps (λ (k : ℕ). is_foreign (copy_of vol k).kind ≡ false) (eqb (1 - copy_for (both vol)) 0) 0 32 read.not_a read.not_b

    -- and neither has the new id
    fresh : (c : ℕ) (h : Header) → copy_of vol (base_of c) ≡ ours h → h.id ≡ head.id → ⊥
    unfolding format_head base_of
    fresh c =
        let f = id_fresh (both vol) m seed in
        let t = neither_has (copy_of vol 0) (copy_of vol 32) _ f.1 in
        pick_keeps (λ (k : ℕ). (h : Header) → copy_of vol k ≡ ours h → h.id ≡ head.id → ⊥) (eqb c 0) 0 32 t.0 t.1

    newest_lt : Numbered vol → newest_of (both vol) < 2 ^ 64
    unfolding newest_of takes_b base_of pick
    newest_lt small =
        pick_keeps_by (λ (g : ℕ). g < 2 ^ 64) (takes_b (both vol)) _ _
        (λ t. small 1 (copy_of vol 32).head (copy_valid vol 32 (and_true (is_ours (copy_of vol 32).kind) _ t).0))
        (λ _. pick_keeps_by (λ (g : ℕ). g < 2 ^ 64) (is_ours (copy_of vol 0).kind) _ _ (λ t. small 0 (copy_of vol 0).head (copy_valid vol 0 t)) (λ _. lit< tt))

    newest : Numbered vol → Newest plan vol
    unfolding format_plan format_head
    newest small =
        let l : newest_of (both vol) < 2 ^ 64 = newest_lt small in
        record {
          number = copy_lt (both vol);
          sane = new_sane;
          range = head_range (both vol) m (sectors_of vol) size seed a.most (next_fits (newest_of (both vol)) l a.less);
          known = beside_known;
          older = λ g e. omega (arith, copy_older vol g e, copy_lt (both vol));
        }

  -- ---- the laws

  pub format_stopped : {e : Error} → (format_of size seed vol m).ans.outcome ≡ Err e → FormatStopped vol m (format_of size seed vol m)
  unfolding format_plan
  format_stopped {e} =
      ways (λ (o : Out). o.ans.outcome ≡ Err e → FormatStopped vol m o)
      (λ x _. record { store = refl; size = refl; stands = λ st s. s; inv = λ st i. i; ranged = λ r. r; body = λ st s k l. refl; records = λ j l. refl; used = spends_none m })
      (λ a q.
      let kept = copy_frame plan vol m (good a) in
      let first = format_first (copy_for (both vol)) head (sectors_of vol) in
      let two : (st : Store) → Stands vol st.copy st.head → st.copy + copy_for (both vol) ≡ 1 = λ st. copy_other vol st.head st.copy in
      record {
        store = (copy_stopped plan vol m (good a) q).0;
        size = kept.size;
        stands = λ st s. stopped_stands plan vol m (good a) first s (two st s) q;
        inv = λ st i. stopped_inv plan vol m (good a) first i (two st i.sound.stands) q;
        ranged = ranged_stopped (copy_for (both vol)) (copy_lt (both vol)) kept (stopped_target plan vol m (good a) first q);
        body = λ st s. body_beside st.copy (copy_for (both vol)) (two st s) kept;
        records = kept_records (copy_for (both vol)) kept;
        used = copy_used plan vol m (good a);
      })

  pub format_made : Numbered vol → (format_of size seed vol m).ans.outcome ≡ Ok tt → FormatMade size vol m (format_of size seed vol m)
  unfolding format_plan format_head is_format map_after mark_after pick no_store
  format_made small =
      ways (λ (o : Out). o.ans.outcome ≡ Ok tt → FormatMade size vol m o)
      (λ x. clash refl)
      (λ a q.
      let done = copy_finished plan vol m (good a) q in
      let kept = copy_frame plan vol m (good a) in
      let st : Store = (copy_out plan vol m).ans.store in
      let c : st.copy ≡ copy_for (both vol) = ap (λ (s : Store). s.copy) done.store in
      let i : st.head.id ≡ head.id = ap (λ (h : Header). h.id) done.head in
      let n : st.head.chunks ≡ head.chunks = ap (λ (h : Header). h.chunks) done.head in
      record {
        inv = finished_inv plan vol m (good a) (full_ok head.chunks) (newest a small) (tied a)
            (λ g e t. absurd (fresh a (1 - copy_for (both vol)) g e (sym (same_id head g t)))) q;
        ranged = ranged_finished plan vol m (good a) (newest a small) q;
        writer = ap (λ (s : Store). s.writer) done.store;
        free = ap (λ (s : Store). s.free) done.store ∙ ap full_of (sym n);
        next = ap (λ (h : Header). h.next_id) done.head;
        cursor = ap (λ (h : Header). h.cursor) done.head;
        id = λ z. (sane a).id (sym i ∙ z);
        fresh = λ k h e z. fresh a k h e (z ∙ i);
        chunk_is = ap (λ (h : Header). h.chunk) done.head;
        chunk_range = (a.least, a.most);
        chunks_range = rw n ((sane a).chunks_least, (sane a).chunks_most);
        room = rw n (sane a).room;
        body = λ k l. rw c (finished_body done (tied a) (format_distinct plan vol m refl) k (rw n at l) ∙ due_format plan vol k refl);
        records = kept_records (copy_for (both vol)) kept;
        size = kept.size;
        used = copy_used plan vol m (good a);
      })

  -- accepted on any bytes at all, and beside a store
  pub format_bytes : Bytes vol → (format_of size seed vol m).ans.outcome ≡ Ok tt → FormatMade size vol m (format_of size seed vol m)
  format_bytes small = format_made (bytes_numbered vol small)

  pub format_again : {st : Store} → Inv vol st → (format_of size seed vol m).ans.outcome ≡ Ok tt → FormatMade size vol m (format_of size seed vol m)
  format_again inv = format_made (inv_numbered inv)
