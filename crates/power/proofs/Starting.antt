-- After an accepted format the other copy is none of the new store, whatever it is. And a zeroed volume meets the premises that a history starts with:
-- its format is accepted, and none of its sectors passes as a record. Assumes nothing.
use Rattle.std.specs.Prelude.{Ok}
use Prim.Native.Nat.{ℕ, zero, suc, ◌+◌, ◌-◌, ◌*◌, ◌/◌, ◌^◌, ◌≤◌, ◌<◌}
use mathlib.Core.Path.{◌≡◌, refl, sym, ap, ◌∙◌}
use mathlib.Core.Bool.{true, false}
use mathlib.Core.List.{List}
use native.Mathlib.Omega.{arith}
use borrow.Author.Tests.{eqb-true}
use lib.Dec.{eqb, lit≤, lit<}
use lib.ListN.{get_or, replicate}
use Rattle.le.specs.Choice.{pick}
use Rattle.le.specs.Part.{zeros}
use Rattle.le.proofs.Parts.{length_zeros, part_zeros}
use Rattle.le.proofs.Bools.{and_true}
use Rattle.runs.specs.Run.{starts_with}
use Rattle.medium.specs.declared.Medium.{Medium}
use Rattle.medium.specs.Refusal.{ok, outcome_of}
use Rattle.handles.specs.declared.Header.{Header}
use Rattle.handles.specs.declared.Store.{Store}
use Rattle.handles.specs.Handles.{body_of, base_of}
use Rattle.header.specs.declared.codec.Replica.TheVariants.{Absent}
use Rattle.header.specs.Header.{ours, bare}
use Rattle.header.specs.Copies.{copy_of, both_of, headers_of, same_store, takes_b}
use Rattle.header.proofs.Accepted.{headers_both}
use Rattle.header.proofs.Edges.{headers_read}
use Rattle.header.proofs.Fill.{length_unmarked}
use Rattle.header.proofs.RoundTrip.{zeros_absent}
use Rattle.record.specs.Record.{matches_of, carries_of, data_at}
use Rattle.record.proofs.Laws.{data_inside}
use Rattle.plan.specs.Copy.{Plan, Out, is_format}
use Rattle.format.specs.Format.{chunks_of, copy_for, newest_of, format_head, format_plan, format_of}
use Rattle.format.proofs.Accepted.{Made, format_made}
use Rattle.format.proofs.Crcs.{length_crcs}
use Rattle.format.proofs.Enough.{format_is, format_done}
use Rattle.format.proofs.Numbers.{copy_lt, chunks_most}
use Rattle.medium.specs.Sector.{sectors_of, sector_at, Readable}
use Rattle.medium.specs.Frame.{Kept}
use Rattle.safe.specs.Copy.{Good}
use Rattle.safe.specs.Inv.{Inv, FormatMade}
use Rattle.safe.proofs.Copy.{copy_frame}
use Rattle.safe.proofs.Current.{stands_headers}
use Rattle.safe.proofs.Format.{newest_is}
use Rattle.safe.proofs.Invs.{reads}
use Rattle.safe.proofs.Mounts.{beside}
use Rattle.store.specs.Writing.{format_call}
use Rattle.power.specs.History.{Clean}

-- ---- after any format

module _ (size seed : ℕ) (vol : List ℕ) (m : Medium) (done : (format_of size seed vol m).ans.outcome ≡ Ok tt) where
  abbrev out : Out
  out = format_of size seed vol m

  facts : Made size seed vol m out.ans.store
  facts = format_made size seed vol m done

  abbrev head : Header
  head = format_head (headers_of vol m) m (chunks_of (sectors_of vol) size) size seed

  abbrev plan : Plan
  plan = format_plan (copy_for (headers_of vol m)) head

  fits : Good plan vol
  unfolding format_plan format_head is_format
  fits =
      let few : chunks_of (sectors_of vol) size ≤ 2048 = chunks_most (sectors_of vol) size in
      let count = length_crcs (body_of (chunks_of (sectors_of vol) size)) (omega arith) in
      record {
        enough = (headers_both vol m facts.headers).enough;
        chunks = few;
        count = count;
        first = length_unmarked head count few;
        name = lit≤ tt;
        own = λ f. absurd (let z : ◌≡◌ {A = ℕ} 0 1 = cc in omega arith);
      }

  -- every sector outside the copy written is as it was
  frame : Kept (base_of out.ans.store.copy) 25 vol out.vol
  unfolding format_plan
  frame =
      let c : out.ans.store.copy ≡ copy_for (headers_of vol m) = ap (λ (s : Store). s.copy) facts.store in
      rw (c, format_is size seed vol m facts.headers facts.size_least facts.size_most facts.some facts.less) (copy_frame plan vol m fits)

  -- the other copy, where it is valid, has another id
  pub format_alone : FormatMade size vol m out → (g : Header) → copy_of out.vol (base_of (1 - out.ans.store.copy)) ≡ ours g → same_store out.ans.store.head g ≡ true → ⊥
  unfolding same_store
  format_alone made g e same =
      let st : Store = out.ans.store in
      let c : st.copy < 2 = rw (ap (λ (s : Store). s.copy) facts.store) (copy_lt (headers_of vol m)) in
      let before : copy_of vol (base_of (1 - st.copy)) ≡ ours g = sym (beside (1 - st.copy) st.copy (omega arith) frame) ∙ e in
      made.fresh (1 - st.copy) g before (sym (eqb-true st.head.id g.id (and_true (eqb st.head.id g.id) _ same).0))

  pub format_generation : out.ans.store.head.generation ≡ newest_of (headers_of vol m) + 1
  unfolding format_head
  format_generation = ap (λ (s : Store). s.head.generation) facts.store

  pub format_chunks : out.ans.store.head.chunks ≡ chunks_of (sectors_of vol) size
  unfolding format_head
  format_chunks = ap (λ (s : Store). s.head.chunks) facts.store

-- ---- a format over a store, with enough writes left

pub again_done : (size seed : ℕ) (vol : List ℕ) (m : Medium) {st : Store} → Inv vol st → Readable vol m → 1 ≤ size → size ≤ 512
    → (chunks_of (sectors_of vol) size ≡ 0 → ⊥) → (st.head.generation ≡ 2 ^ 64 - 1 → ⊥) → body_of (chunks_of (sectors_of vol) size) + 2 ≤ m.left
    → (format_of size seed vol m).ans.outcome ≡ Ok tt
again_done size seed vol m {st} inv r least most some less left =
    let e : 64 ≤ sectors_of vol = inv.sound.stands.enough in
    let h = stands_headers vol st.head m (reads m vol r 0 (omega arith)) (reads m vol r 32 (omega arith)) st.copy inv.sound.stands in
    format_done size seed vol m (rw h refl) least most some (λ q. less (sym (newest_is vol st.head st.copy inv.sound.stands) ∙ (rw h at q))) left

-- ---- a zeroed volume

pub zero_bytes : (n k : ℕ) → get_or (zeros n) k 0 < 256
unfolding zeros
zero_bytes n k = rw (zero_at n k) (lit< tt)
  where
    zero_at : (n k : ℕ) → ◌≡◌ {A = ℕ} (get_or (replicate n 0) k 0) 0
    zero_at zero zero = refl
    zero_at zero (suc k) = refl
    zero_at (suc n) zero = refl
    zero_at (suc n) (suc k) = zero_at n k

zero_blank : (id : ℕ) → carries_of id (zeros 512) ≡ false
unfolding carries_of matches_of starts_with zeros
zero_blank id = refl

module _ (n size seed : ℕ) (m : Medium) (enough : 64 ≤ n / 512) (r : Readable (zeros n) m) where
  abbrev vol : List ℕ
  vol = zeros n

  sectors : sectors_of vol ≡ n / 512
  sectors = rw (length_zeros n)

  sector_zero : (j : ℕ) → j < n / 512 → sector_at vol j ≡ zeros 512
  unfolding sector_at
  sector_zero j h = part_zeros (512 * j) 512 n (omega arith)

  copy_absent : (k : ℕ) → k < n / 512 → copy_of vol k ≡ bare Absent
  unfolding copy_of
  copy_absent k h = rw (sector_zero k h) (zeros_absent (sectors_of vol))

  headers_none : headers_of vol m ≡ both_of (bare Absent) (bare Absent)
  headers_none =
      let a = copy_absent 0 (omega arith) in
      let b = copy_absent 32 (omega arith) in
      let s : 64 ≤ sectors_of vol = rw sectors enough in
      headers_read vol m s (reads m vol r 0 (omega arith)) (reads m vol r 32 (omega arith)) (rw a refl) (rw b refl) ∙ rw (a, b)

  pub zero_newest : newest_of (headers_of vol m) ≡ 0
  unfolding newest_of takes_b pick
  zero_newest = rw headers_none

  module _ (least : 1 ≤ size) (most : size ≤ 512) (some : chunks_of (n / 512) size ≡ 0 → ⊥) (left : body_of (chunks_of (n / 512) size) + 2 ≤ m.left) where
    pub zero_done : (format_of size seed vol m).ans.outcome ≡ Ok tt
    zero_done =
        format_done size seed vol m (rw headers_none refl) least most (rw sectors some) (λ e. let z : 0 ≡ 2 ^ 64 - 1 = sym zero_newest ∙ e in omega (arith, z)) (rw sectors left)

    pub zero_accepted : (format_call vol m size seed).call.answer ≡ ok tt
    unfolding format_call
    zero_accepted = ap outcome_of zero_done

    pub zero_clean : FormatMade size vol m (format_of size seed vol m) → Clean vol (format_call vol m size seed).call.store
    unfolding format_call
    zero_clean made c i hc hi =
        let st : Store = (format_of size seed vol m).ans.store in
        let inside : data_at st c i < sectors_of vol = data_inside st c i (sectors_of vol) hc hi (rw made.chunk_is made.room) in
        rw (sector_zero (data_at st c i) (rw sectors at inside)) (zero_blank st.head.id)
