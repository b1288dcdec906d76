-- What a reader finds: the search, the hole, the record and the way there. Each law is a way out of its function, over plain values; then what an
-- answer keeps. Assumes nothing.
use Rattle.std.specs.Prelude.{Err, Ok, Option, Some, None, Result}
use mathlib.Core.Path.{◌≡◌, refl, sym, ap, ◌∙◌, subst}
use mathlib.Core.Bool.{Bool, true, false, ◌&&◌, false≢true}
use Rattle.std.specs.Option.{is_some}
use mathlib.Core.List.{List}
use Prim.Native.Nat.{ℕ, ◌+◌, ◌-◌, ◌*◌, ◌≤◌, ◌<◌}
use native.Mathlib.Nat.{le_refl, add-sub_cancel_left}
use native.Mathlib.Omega.{arith}
use borrow.Author.Tests.{eq-eqb}
use borrow.Author.Count.{below_more}
use lib.Dec.{eqb}
use lib.ListN.{length, take, drop}
use Rattle.le.specs.Choice.{pick}
use Rattle.le.specs.Part.{part, over}
use Rattle.le.proofs.Choices.{pick_keeps_by}
use Rattle.le.proofs.Parts.{length_part, length_over}
use Rattle.le.proofs.Turns.{told}
use Rattle.walk.specs.Walk.{next, stop, visits}
use Rattle.walk.proofs.Laws.{walk_keeps}
use Rattle.medium.specs.declared.Error.{Error}
use Rattle.medium.specs.declared.Medium.{Medium}
use Rattle.medium.specs.Sector.{sectors_of, sector_at}
use Rattle.medium.proofs.Laws.{length_sector}
use Rattle.handles.specs.declared.Store.{Store}
use Rattle.handles.specs.Handles.{store_ok}
use Rattle.handles.proofs.Laws.{store_facts}
use Rattle.record.specs.Record.{on_judged, on_result, payload_of, data_at, number_at, read_record_of, record_at}
use Rattle.record.proofs.Laws.{on_judged_keeps, on_result_keeps, data_inside}
use Rattle.record.proofs.RoundTrip.{judge_length, read_judged, payload_place}
use Rattle.reader.specs.declared.Reader.{Reader}
use Rattle.reader.specs.declared.Arrived.{Arrived}
use Rattle.reader.specs.declared.Found.{Found}
use Rattle.reader.specs.declared.Found.TheVariants as found
use Rattle.reader.specs.declared.Taken.{Taken}
use Rattle.reader.specs.Reader.{reader_ok, moved_to}
use Rattle.reader.specs.Next.{passed_end, is_last, limit_of, arrive_of, record_here, search_step, search_of, tells, hole_of, NextOut, take_of, next_of}
use Rattle.reader.proofs.Facts.{Reads, reader_facts, limit_most, moved_reads}
use Rattle.reader.proofs.Moves.{arrive_here, arrive_end, Arrives, arrive_reads}

-- ---- a record of the reader's chunk

module _ (vol : List ℕ) (m : Medium) (st : Store) (rd : Reader) (i : ℕ) where
  -- its sector is inside the volume
  pub record_inside : store_ok st (sectors_of vol) ≡ true → Reads rd st → i < st.head.chunk → data_at st rd.chunk i < sectors_of vol
  record_inside ok r h = data_inside st rd.chunk i (sectors_of vol) r.chunk h (store_facts st (sectors_of vol) ok).head.room

  pub record_read : {j : Result (Option ℕ) Error} {n : ℕ} → n ≡ number_at rd.position st.head.chunk i → j ≡ read_record_of vol m st rd.id rd.chunk i n → j ≡ record_here vol m st rd i
  unfolding record_here record_at
  record_read p q = q ∙ ap (read_record_of vol m st rd.id rd.chunk i) p

  pub record_length : {n : ℕ} → record_here vol m st rd i ≡ Ok (Some n) → (1 ≤ n) × (n ≤ 486)
  unfolding record_here record_at
  record_length e = judge_length _ _ _ _ (read_judged vol m st rd.id rd.chunk i _ e).1

-- ---- the search

module _ (vol : List ℕ) (m : Medium) (st : Store) (rd : Reader) (from limit : ℕ) where
  -- it has come to k: no record before is valid
  pub record Passed (k : ℕ) : Type 0 where
    pub low : from ≤ k
    pub before : (j : ℕ) → from ≤ j → j < k → record_here vol m st rd j ≡ Ok None

  -- what it finds lies between its start and the limit, with no valid record before it; below the limit it is a valid one
  pub record Search (i : ℕ) : Type 0 where
    pub passed : Passed i
    pub most : i ≤ limit
    pub there : i < limit → (n : ℕ) × (record_here vol m st rd i ≡ Ok (Some n))

  abbrev Within : Result ℕ Error → Type 0
  Within (Err e) = Unit {0}
  Within (Ok i) = Search i

  module _ (k : ℕ) (s : Unit {0}) (p : Passed k) where
    goes : (j : Result (Option ℕ) Error) (t : Unit {0}) → record_here vol m st rd k ≡ j → search_step k s j ≡ next t → Passed (k + 1)
    unfolding on_judged
    goes (Err e) t r q = absurd (let z : ◌≡◌ {A = ℕ} 0 1 = cc in omega arith)
    goes (Ok (Some n)) t r q = absurd (let z : ◌≡◌ {A = ℕ} 0 1 = cc in omega arith)
    goes (Ok None) t r q =
        let l : from ≤ k = p.low in
        record {
          low = omega arith;
          before = λ j a b. below_more (λ (i : ℕ). from ≤ i → record_here vol m st rd i ≡ Ok None) k (λ i c d. p.before i d c) (λ _. r) j b a;
        }

    stops : (j : Result (Option ℕ) Error) (r : Result ℕ Error) → record_here vol m st rd k ≡ j → k < limit → search_step k s j ≡ stop r → Within r
    unfolding on_judged
    stops (Err e) r f h q = let z : Err e ≡ r = cc in subst Within z tt
    stops (Ok (Some n)) r f h q = let z : Ok k ≡ r = cc in subst Within z (record { passed = p; most = omega arith; there = λ _. (n, f) })
    stops (Ok None) r f h q = absurd (let z : ◌≡◌ {A = ℕ} 0 1 = cc in omega arith)

  within : from ≤ limit → Within (search_of vol m st rd from limit)
  unfolding search_of visits
  within h =
      walk_keeps (λ k t. search_step k t (record_here vol m st rd k)) (λ s. Ok limit) limit (λ k t. Passed k) Within
      (λ k t u b p q. goes k t p (record_here vol m st rd k) u refl q)
      (λ k t r b p q. stops k t p (record_here vol m st rd k) r refl b q)
      (λ t p. record { passed = p; most = le_refl limit; there = λ b. absurd (omega arith) })
      from tt h (record { low = le_refl from; before = λ j a b. absurd (omega arith) })

  pub search_range : {i : ℕ} → from ≤ limit → search_of vol m st rd from limit ≡ Ok i → Search i
  search_range h e = subst Within e (within h)

-- a turn of the search: it ends at a valid record and goes on past another
pub search_stops : (i : ℕ) (o : Option ℕ) → is_some o ≡ true → search_step i tt (Ok o) ≡ stop (Ok i)
unfolding on_judged
search_stops i None h = absurd (false≢true h)
search_stops i (Some n) h = refl

pub search_goes : (i : ℕ) (o : Option ℕ) → is_some o ≡ false → search_step i tt (Ok o) ≡ next tt
unfolding on_judged
search_goes i None h = refl
search_goes i (Some n) h = absurd (false≢true (sym h))

-- ---- the hole

module _ (vol : List ℕ) (m : Medium) (st : Store) (rd : Reader) {limit : ℕ} {s : Result ℕ Error} (ends : limit ≡ limit_of rd.end st.head.chunk)
    (asked : s ≡ search_of vol m st rd (rd.index + 1) limit) where
  pub hole_within : {to : ℕ} → Reads rd st → rd.index < limit_of rd.end st.head.chunk → s ≡ Ok to → to ≤ st.head.chunk
  hole_within r b q =
      let w = search_range vol m st rd (rd.index + 1) limit (omega arith) (told asked q) in
      omega (arith, w.most, limit_most rd.end st.head.chunk r.end)

  pub hole_refused : {e : Error} → s ≡ Err e → tells (Err e) rd ≡ hole_of vol m st rd
  unfolding hole_of on_result
  hole_refused q = rw (← ends, ← asked, q)

  module _ {to : ℕ} (q : s ≡ Ok to) {last : Bool} (l : last ≡ is_last rd.end) where
    pub hole_end : (last && eqb to limit) ≡ true → tells (Ok found.End) rd ≡ hole_of vol m st rd
    unfolding hole_of on_result pick
    hole_end t = rw (← ends, ← asked, q, ← l, t)

-- ---- the record at the index

-- its sector is one of the volume
pub take_placed : (vol : List ℕ) (m : Medium) (st : Store) (rd : Reader) {d : ℕ} → store_ok st (sectors_of vol) ≡ true → reader_ok rd st ≡ true → rd.index < limit_of rd.end st.head.chunk
    → d ≡ data_at st rd.chunk rd.index → (d < sectors_of vol) × (rd.index < 512)
take_placed vol m st rd ok r b e =
    let f : Reads rd st = reader_facts rd st r in
    let l = limit_most rd.end st.head.chunk f.end in
    let s = (store_facts st (sectors_of vol) ok).head.size_most in
    (rw e (record_inside vol m st rd rd.index ok f (omega arith)), omega arith)

module _ (vol : List ℕ) (m : Medium) (st : Store) (rd : Reader) (out : List ℕ) {number : ℕ} {j : Result (Option ℕ) Error} (numbered : number ≡ number_at rd.position st.head.chunk rd.index)
    (asked : j ≡ read_record_of vol m st rd.id rd.chunk rd.index number) where
  read : j ≡ record_here vol m st rd rd.index
  read = record_read vol m st rd rd.index numbered asked

  pub take_refused : {e : Error} → j ≡ Err e → (out ≡ (take_of vol m st rd out).out) × (tells (Err e) rd ≡ (take_of vol m st rd out).ans)
  unfolding take_of on_judged
  take_refused q = rw (← read, q) (refl, refl)

  pub take_hole : {h : Taken} → j ≡ Ok None → h ≡ hole_of vol m st rd → (out ≡ (take_of vol m st rd out).out) × (h ≡ (take_of vol m st rd out).ans)
  unfolding take_of on_judged
  take_hole q e = rw (← read, q) (refl, e)

  module _ {n : ℕ} (q : j ≡ Ok (Some n)) where
    pub take_length : (1 ≤ n) × (n ≤ 486)
    take_length = record_length vol m st rd rd.index (told read q)

    pub take_payload : {a d : ℕ} {l : List ℕ} {r : Reader} → d ≡ data_at st rd.chunk rd.index → a ≡ 512 * d + 22 → l ≡ over 0 (take (a + n - a) (drop a vol)) out
        → r ≡ moved_to rd rd.position (rd.index + 1) → (l ≡ (take_of vol m st rd out).out) × (tells (Ok (found.Payload n)) r ≡ (take_of vol m st rd out).ans)
    unfolding take_of on_judged part
    take_payload {a} {d} {l} p o e w =
        let z : payload_of (sector_at vol (data_at st rd.chunk rd.index)) n ≡ take (a + n - a) (drop a vol) =
        payload_place vol (data_at st rd.chunk rd.index) n take_length.1 ∙ rw (← p, ← o, add-sub_cancel_left) in
        rw (← read, q) (e ∙ ap (λ (b : List ℕ). over 0 b out) (sym z), ap (tells (Ok (found.Payload n))) w)

-- ---- the way there

module _ (vol : List ℕ) (m : Medium) (st : Store) (rd : Reader) (out : List ℕ) {a : Arrived} (came : a ≡ arrive_of vol m st rd) where
  pub next_refused : {e : Error} → a.more ≡ Err e → (out ≡ (next_of vol m st rd out).out) × (tells (Err e) a.reader ≡ (next_of vol m st rd out).ans)
  unfolding next_of on_result
  next_refused q = rw (← came, q) (refl, refl)

  pub next_end : a.more ≡ Ok false → (out ≡ (next_of vol m st rd out).out) × (tells (Ok found.End) a.reader ≡ (next_of vol m st rd out).ans)
  unfolding next_of on_result pick
  next_end q = rw (← came, q) (refl, refl)

  pub next_taken : {l : List ℕ} {t : Taken} → a.more ≡ Ok true → l ≡ (take_of vol m st a.reader out).out → t ≡ (take_of vol m st a.reader out).ans
      → (l ≡ (next_of vol m st rd out).out) × (t ≡ (next_of vol m st rd out).ans)
  unfolding next_of on_result pick
  next_taken q e f = rw (← came, q) (e, f)

-- past the chunks, and at the size in the last chunk, it is the end, with nothing read
module _ (vol : List ℕ) (m : Medium) (st : Store) (rd : Reader) (out : List ℕ) where
  pub next_past : rd.chunks ≤ rd.position → next_of vol m st rd out ≡ record { out = out; ans = tells (Ok found.End) rd }
  unfolding next_of on_result pick
  next_past h = rw (arrive_end vol m st rd h)

  pub next_full : rd.position < rd.chunks → rd.end ≡ None → rd.index ≡ st.head.chunk → next_of vol m st rd out ≡ record { out = out; ans = tells (Ok found.End) rd }
  unfolding next_of on_result pick passed_end
  next_full h e i = let p : passed_end rd.end rd.index ≡ false = rw e in rw (arrive_here vol m st rd h p, eq-eqb _ _ i)

-- ---- what an answer keeps: the reader passes, the output has its length, and a payload is one that a record has

pub record Finds (st : Store) (out : List ℕ) (r : NextOut) : Type 0 where
  pub reads : Reads r.ans.reader st
  pub kept : length r.out ≡ length out
  pub size : (n : ℕ) → r.ans.next ≡ Ok (found.Payload n) → (1 ≤ n) × (n ≤ 486)

-- an answer with no payload
abbrev Plain : Result Found Error → Type 0
Plain (Err e) = Unit {0}
Plain (Ok (found.Payload n)) = ⊥
Plain (Ok (found.Hole a b)) = Unit {0}
Plain (Ok found.End) = Unit {0}

module _ (vol : List ℕ) (m : Medium) (st : Store) (out : List ℕ) (ok : store_ok st (sectors_of vol) ≡ true) (enough : 486 ≤ length out) where
  plain : (x : Result Found Error) (rd : Reader) → Reads rd st → Plain x → Finds st out (record { out = out; ans = tells x rd })
  plain x rd r p = record { reads = r; kept = refl; size = λ n q. absurd (subst Plain q p) }

  module _ (rd : Reader) (r : Reads rd st) (b : rd.index < limit_of rd.end st.head.chunk) where
    most : limit_of rd.end st.head.chunk ≤ st.head.chunk
    most = limit_most rd.end st.head.chunk r.end

    hole_finds : Finds st out (record { out = out; ans = hole_of vol m st rd })
    unfolding hole_of
    hole_finds =
        on_result_keeps (λ (t : Taken). Finds st out (record { out = out; ans = t })) (search_of vol m st rd (rd.index + 1) (limit_of rd.end st.head.chunk)) _ _
        (λ e _. plain (Err e) rd r tt)
        (λ to q.
        pick_keeps_by (λ (t : Taken). Finds st out (record { out = out; ans = t })) (is_last rd.end && eqb to (limit_of rd.end st.head.chunk)) _ _
        (λ t. plain (Ok found.End) rd r tt)
        (λ t. plain _ (moved_to rd rd.position to) (moved_reads st rd rd.position to r r.position (hole_within vol m st rd refl refl r b q)) tt))

    payload_kept : (n : ℕ) → n ≤ 486 → length (over 0 (payload_of (sector_at vol (data_at st rd.chunk rd.index)) n) out) ≡ length out
    unfolding payload_of
    payload_kept n h =
        let s : length (sector_at vol (data_at st rd.chunk rd.index)) ≡ 512 =
        length_sector vol _ (record_inside vol m st rd rd.index ok r (omega (arith, most))) in
        let l : length (part 22 n (sector_at vol (data_at st rd.chunk rd.index))) ≡ n = length_part 22 n _ (omega arith) in
        length_over 0 _ out (omega arith)

    pub take_finds : Finds st out (take_of vol m st rd out)
    unfolding take_of
    take_finds =
        on_judged_keeps (Finds st out) (record_here vol m st rd rd.index) _ _ _
        (λ e. plain (Err e) rd r tt)
        (λ n q.
        let l = record_length vol m st rd rd.index q in
        record {
          reads = moved_reads st rd rd.position (rd.index + 1) r r.position (omega (arith, most));
          kept = payload_kept n l.1;
          size = λ k w. let z : n ≡ k = cc in subst (λ (x : ℕ). (1 ≤ x) × (x ≤ 486)) z l;
        })
        (λ q. hole_finds)

  pub next_finds : (rd : Reader) → Reads rd st → Finds st out (next_of vol m st rd out)
  unfolding next_of
  next_finds rd r =
      let a : Arrives st (arrive_of vol m st rd) = arrive_reads vol m st rd r in
      on_result_keeps (Finds st out) (arrive_of vol m st rd).more _ _
      (λ e _. plain (Err e) _ a.reads tt)
      (λ more o.
      pick_keeps_by (Finds st out) more _ _ (λ t. take_finds (arrive_of vol m st rd).reader a.reads (a.below (o ∙ ap Ok t)))
      (λ t. plain (Ok found.End) _ a.reads tt))
