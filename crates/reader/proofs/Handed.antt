-- S-1: what a reader up to a number hands back passes refusal 3 again. Assumes nothing.
use Rattle.std.specs.Prelude.{Ok, Result, Err, Option, Some, None}
use Rattle.medium.specs.declared.Error.{Error}
use mathlib.Core.Path.{◌≡◌, refl, ap, subst, ◌∙◌}
use mathlib.Core.Bool.{true}
use mathlib.Core.List.{List}
use Prim.Native.Nat.{ℕ, ◌+◌, ◌-◌, ◌*◌, ◌≤◌, ◌<◌}
use native.Mathlib.Omega.{arith}
use borrow.Author.Tests.{ltb-true, ltb-false}
use lib.Dec.{ltb, leb}
use lib.ListN.{length}
use Rattle.le.proofs.Bools.{and_true}
use Rattle.le.proofs.Choices.{pick_keeps, pick_keeps_by}
use Rattle.medium.specs.declared.Medium.{Medium}
use Rattle.medium.specs.Sector.{sectors_of}
use Rattle.medium.proofs.Laws.{on_done_keeps}
use Rattle.handles.specs.declared.Store.{Store}
use Rattle.handles.specs.Handles.{store_ok}
use Rattle.record.specs.Record.{number_at}
use Rattle.record.proofs.Laws.{on_judged_keeps, on_result_keeps}
use Rattle.reader.specs.declared.Reader.{Reader}
use Rattle.reader.specs.declared.Found.{Found}
use Rattle.reader.specs.declared.Found.TheVariants as found
use Rattle.reader.specs.declared.Taken.{Taken}
use Rattle.reader.specs.declared.Upto.{Upto}
use Rattle.reader.specs.Reader.{reader_ok}
use Rattle.reader.specs.Next.{limit_of, record_here, search_of, arrive_of, hole_of, NextOut, take_of}
use Rattle.reader.specs.Calls.{usable_of}
use Rattle.reader.specs.Upto.{stands_at, cut_at, cut_out, below_of, next_upto, UptoCall, below_call}
use Rattle.reader.proofs.Facts.{Reads, reader_facts, reader_ok_lem, usable_facts, moved_reads}
use Rattle.reader.proofs.Moves.{Arrives, arrive_reads}
use Rattle.reader.proofs.Finds.{hole_within, take_finds, next_finds}

-- a hole ends within its chunk
abbrev Ends : Store → Reader → Result Found Error → Type 0
Ends st rd n = (x y : ℕ) → n ≡ Ok (found.Hole x y) → y ≤ number_at rd.position st.head.chunk st.head.chunk

number_most : (p size i : ℕ) → i ≤ size → number_at p size i ≤ number_at p size size
unfolding number_at
number_most p size i h = go (p * size)
  where
    go : (b : ℕ) → b + i ≤ b + size
    go b = omega arith

module _ (vol : List ℕ) (m : Medium) (st : Store) (rd : Reader) (r : Reads rd st) (b : rd.index < limit_of rd.end st.head.chunk) where
  hole_ends : Ends st rd (hole_of vol m st rd).next
  unfolding hole_of
  hole_ends =
      on_result_keeps (λ (t : Taken). Ends st rd t.next) (search_of vol m st rd (rd.index + 1) (limit_of rd.end st.head.chunk)) _ _
      (λ e _ x y q. absurd (let z : ◌≡◌ {A = ℕ} 0 1 = cc in omega arith))
      (λ to q.
      pick_keeps (λ (t : Taken). Ends st rd t.next) _ _ _
      (λ x y w. absurd (let z : ◌≡◌ {A = ℕ} 0 1 = cc in omega arith))
      (λ x y w.
      let z : number_at rd.position st.head.chunk to ≡ y = cc in
      subst (λ (k : ℕ). k ≤ number_at rd.position st.head.chunk st.head.chunk) z (number_most rd.position st.head.chunk to (hole_within vol m st rd refl refl r b q))))

  take_ends : (out : List ℕ) → Ends st rd (take_of vol m st rd out).ans.next
  unfolding take_of
  take_ends out =
      on_judged_keeps (λ (o : NextOut). Ends st rd o.ans.next) (record_here vol m st rd rd.index) _ _ _
      (λ e x y q. absurd (let z : ◌≡◌ {A = ℕ} 0 1 = cc in omega arith))
      (λ n q x y w. absurd (let z : ◌≡◌ {A = ℕ} 0 1 = cc in omega arith))
      (λ q. hole_ends)

-- the limit as an index of the chunk
cut_index : (p size limit to : ℕ) → limit < to → to ≤ number_at p size size → limit - number_at p size 0 ≤ size
unfolding number_at
cut_index p size limit to h k = go (p * size) k
  where
    go : (b : ℕ) → to ≤ b + size → limit - (b + 0) ≤ size
    go b q = omega (arith, h, q)

cut_reads : (limit : ℕ) (st : Store) (rd : Reader) (t : Taken) (n : Result Found Error) → Reads rd st → Reads t.reader st → Ends st rd n → Reads (cut_at limit st rd t n).reader st
unfolding cut_at
cut_reads limit st rd t (Err e) r k ends = k
cut_reads limit st rd t (Ok (found.Payload n)) r k ends = k
cut_reads limit st rd t (Ok (found.Hole from to)) r k ends =
    pick_keeps_by (λ (x : Taken). Reads x.reader st) (ltb limit to) _ _
    (λ h. moved_reads st rd rd.position _ r r.position (cut_index rd.position st.head.chunk limit to (ltb-true limit to h) (ends from to refl)))
    (λ h. k)
cut_reads limit st rd t (Ok found.End) r k ends = k

module _ (limit : ℕ) (vol : List ℕ) (m : Medium) (st : Store) (out : List ℕ) (ok : store_ok st (sectors_of vol) ≡ true) (enough : 486 ≤ length out) where
  below_reads : (rd : Reader) → Reads rd st → Reads (below_of limit vol m st rd out).ans.reader st
  unfolding below_of cut_out
  below_reads rd r =
      let a : Arrives st (arrive_of vol m st rd) = arrive_reads vol m st rd r in
      pick_keeps (λ (o : NextOut). Reads o.ans.reader st) (leb limit (stands_at st rd)) _ _ r
      (on_result_keeps (λ (o : NextOut). Reads o.ans.reader st) (arrive_of vol m st rd).more _ _ (λ e o. a.reads)
      (λ b o.
      pick_keeps_by (λ (x : NextOut). Reads x.ans.reader st) _ _ _
      (λ t.
      let more : (arrive_of vol m st rd).more ≡ Ok true = o ∙ ap Ok (and_true _ _ t).0 in
      let there = (arrive_of vol m st rd).reader in
      cut_reads limit st there _ _ a.reads (take_finds vol m st out ok enough there a.reads (a.below more)).reads (take_ends vol m st there a.reads (a.below more) out))
      (λ t. a.reads)))

-- the reader behind what was found passes
pub upto_passes : (limit : Option ℕ) (vol : List ℕ) (m : Medium) (st : Store) (rd : Reader) (out : List ℕ) {t : Taken} → store_ok st (sectors_of vol) ≡ true → reader_ok rd st ≡ true
    → 486 ≤ length out → t ≡ (next_upto limit vol m st rd out).ans → reader_ok t.reader st ≡ true
unfolding next_upto
upto_passes None vol m st rd out ok r enough e = rw e (reader_ok_lem _ st (next_finds vol m st out ok enough rd (reader_facts rd st r)).reads)
upto_passes (Some limit) vol m st rd out ok r enough e = rw e (reader_ok_lem _ st (below_reads limit vol m st out ok enough rd (reader_facts rd st r)))

pub below_passes : (vol : List ℕ) (m : Medium) (st : Store) (u : Upto) (out : List ℕ) → reader_ok u.reader st ≡ true → reader_ok (below_call vol m st u out).upto.reader st ≡ true
unfolding below_call
below_passes vol m st u out r =
    pick_keeps_by (λ (c : UptoCall). reader_ok c.upto.reader st ≡ true) (ltb (length out) 486) _ _ (λ t. r)
    (λ t. on_done_keeps (λ (c : UptoCall). reader_ok c.upto.reader st ≡ true) (usable_of vol st u.reader) _ _
    (λ q. reader_ok_lem _ st (below_reads u.limit vol m st out (usable_facts vol st u.reader refl q).0 (ltb-false _ _ t) u.reader (reader_facts u.reader st r)))
    (λ e q. r))
