-- S-4: the count that an answer carries. It is of the hole's own sectors, each of which the call has read: those of the chunk at which the reader
-- arrived, from its index to before the hole's end; of a hole that a number cuts short (S-1), to before that number. Assumes nothing.
use Rattle.std.specs.Prelude.{Result, Ok, Err}
use Rattle.medium.specs.declared.Error.{Error}
use mathlib.Core.Path.{◌≡◌, refl, sym, ap, ◌∙◌, subst}
use mathlib.Core.Bool.{Bool, true}
use mathlib.Core.List.{List}
use Prim.Native.Nat.{ℕ, ◌+◌, ◌-◌, ◌*◌, ◌≤◌, ◌<◌}
use native.Mathlib.Nat.{le_refl}
use native.Mathlib.Omega.{arith}
use borrow.Author.Tests.{ltb-true}
use lib.Arith.{digits_mod}
use lib.Dec.{ltb, leb}
use lib.ListN.{length}
use Rattle.le.specs.Tally.{tally}
use Rattle.le.proofs.Bools.{and_true}
use Rattle.le.proofs.Choices.{pick_keeps, pick_keeps_by}
use Rattle.le.proofs.Tallies.{tally_ext}
use Rattle.medium.specs.declared.Medium.{Medium}
use Rattle.medium.specs.Refusal.{ok}
use Rattle.medium.specs.Sector.{sector_at}
use Rattle.medium.proofs.Laws.{on_done_keeps}
use Rattle.handles.specs.declared.Store.{Store}
use Rattle.record.specs.Record.{is_blank, data_at, number_at}
use Rattle.record.proofs.Laws.{on_judged_keeps, on_result_keeps}
use Rattle.reader.specs.declared.Reader.{Reader}
use Rattle.reader.specs.declared.Arrived.{Arrived}
use Rattle.reader.specs.declared.Found.{Found}
use Rattle.reader.specs.declared.Found.TheVariants as found
use Rattle.reader.specs.declared.Taken.{Taken}
use Rattle.reader.specs.declared.Upto.{Upto}
use Rattle.reader.specs.Reader.{moved_to}
use Rattle.reader.specs.Next.{arrive_of, record_here, hole_of, NextOut, take_of, next_of}
use Rattle.reader.specs.Blank.{blank_at, blanks_of, counted_of}
use Rattle.reader.specs.Calls.{usable_of, hole, next_answer, NextCall, next_call}
use Rattle.reader.specs.Upto.{stands_at, cut_at, cut_out, below_of, UptoCall, below_call}
use Rattle.reader.proofs.Facts.{Reads, reader_facts, usable_facts, limit_most}
use Rattle.reader.proofs.Moves.{arrive_reads}
use Rattle.reader.proofs.Holes.{HoleIs, Tells, take_tells, next_hole}

-- ---- by places

blanks_chunk : (vol : List ℕ) (st : Store) (r q : Reader) (from to : ℕ) → r.chunk ≡ q.chunk → blanks_of vol st r from to ≡ blanks_of vol st q from to
unfolding blanks_of blank_at
blanks_chunk vol st r q from to e = rw e

-- how many of the first n sectors of the reader's chunk from its index on are blank
abbrev pub blank_places : List ℕ → Store → Reader → ℕ → ℕ
blank_places vol st rd n = tally (λ i. is_blank (sector_at vol (data_at st rd.chunk (rd.index + i)))) n

module _ (vol : List ℕ) (m : Medium) (st : Store) (rd : Reader) (reads : Reads rd st) {a b : ℕ} (h : HoleIs vol m st rd a b) where
  one : (i : ℕ) → i < b - a → blank_at vol st rd (a + i) ≡ is_blank (sector_at vol (data_at st rd.chunk (rd.index + i)))
  unfolding blank_at number_at
  one i k = go (rd.position * st.head.chunk) refl
    where
      go : (p : ℕ) → p ≡ rd.position * st.head.chunk → blank_at vol st rd (a + i) ≡ is_blank (sector_at vol (data_at st rd.chunk (rd.index + i)))
      go p e =
          let f : a ≡ p + rd.index = h.first ∙ rw e refl in
          let g : b ≡ p + h.to = h.past ∙ rw e refl in
          let l : rd.index + i < st.head.chunk = omega (arith, h.most, limit_most rd.end st.head.chunk reads.end) in
          let n : a + i ≡ rd.position * st.head.chunk + (rd.index + i) = omega arith in
          rw (n, digits_mod rd.position l)

  -- of all of it, or of a first part
  pub hole_places : (c : ℕ) → c ≤ b → blanks_of vol st rd a c ≡ blank_places vol st rd (c - a)
  unfolding blanks_of
  hole_places c k = tally_ext _ _ (c - a) (λ i q. one i (omega arith))

-- a first part of a hole that ends at `whole`: all of it, or what a number leaves of it
pub record Cut (vol : List ℕ) (m : Medium) (st : Store) (rd : Reader) (from to : ℕ) : Type 0 where
  pub whole : ℕ
  pub is : HoleIs vol m st rd from whole
  pub most : to ≤ whole

module _ (vol : List ℕ) (m : Medium) (st : Store) (limit : ℕ) where
  -- an answer that is no hole
  clash : (rd : Reader) (t : Taken) (x : Result Found Error) {from to : ℕ} → (x ≡ Ok (found.Hole from to) → ⊥) → t.next ≡ x → t.next ≡ Ok (found.Hole from to) → Cut vol m st rd from to
  clash rd t x n p q = absurd (n (sym p ∙ q))

  cut_tells : (rd : Reader) (more : Result Bool Error) (t : Taken) (x : Result Found Error) {from to : ℕ} → t.next ≡ x → Tells vol m st rd more x → (cut_at limit st rd t x).next ≡ Ok (found.Hole from to)
      → Cut vol m st rd from to
  unfolding cut_at
  cut_tells rd more t (Err e) p w = clash rd t (Err e) (λ r. let z : ◌≡◌ {A = ℕ} 0 1 = cc in omega arith) p
  cut_tells rd more t (Ok (found.Payload n)) p w = clash rd t (Ok (found.Payload n)) (λ r. let z : ◌≡◌ {A = ℕ} 0 1 = cc in omega arith) p
  cut_tells rd more t (Ok found.End) p w = clash rd t (Ok found.End) (λ r. let z : ◌≡◌ {A = ℕ} 0 1 = cc in omega arith) p
  cut_tells rd more t (Ok (found.Hole a b)) {from} {to} p w =
      pick_keeps_by (λ (u : Taken). u.next ≡ Ok (found.Hole from to) → Cut vol m st rd from to) (ltb limit b) _ _
      (λ h q.
      let f : a ≡ from = cc in
      let e : limit ≡ to = cc in
      record { whole = b; is = subst (λ (k : ℕ). HoleIs vol m st rd k b) f w; most = omega (arith, e, ltb-true limit b h) })
      (λ h q.
      let r : (Ok (found.Hole a b)) ≡ Ok (found.Hole from to) = sym p ∙ q in
      let f : a ≡ from = cc in
      let e : b ≡ to = cc in
      record { whole = b; is = subst (λ (k : ℕ). HoleIs vol m st rd k b) f w; most = omega (arith, e) })

  abbrev CutGoal : Reader → ℕ → ℕ → NextOut → Type 0
  CutGoal came from to o = o.ans.next ≡ Ok (found.Hole from to) → Cut vol m st came from to

  below_cut : (rd : Reader) (out : List ℕ) (from to : ℕ) → Reads rd st → CutGoal (arrive_of vol m st rd).reader from to (below_of limit vol m st rd out)
  unfolding below_of cut_out
  below_cut rd out from to r =
      let came : Arrived = arrive_of vol m st rd in
      pick_keeps (CutGoal came.reader from to) (leb limit (stands_at st rd)) _ _ (λ q. absurd (let z : ◌≡◌ {A = ℕ} 0 1 = cc in omega arith))
      (on_result_keeps (CutGoal came.reader from to) _ _ _ (λ e d q. absurd (let z : ◌≡◌ {A = ℕ} 0 1 = cc in omega arith))
      (λ b o. pick_keeps_by (CutGoal came.reader from to) _ _ _
      (λ t q.
      let there : came.more ≡ Ok true = o ∙ ap Ok (and_true _ _ t).0 in
      cut_tells came.reader came.more _ _ refl (take_tells vol m st came.reader came.more ((arrive_reads vol m st rd r).below there) out) q)
      (λ t q. absurd (let z : ◌≡◌ {A = ℕ} 0 1 = cc in omega arith))))

-- ---- the reader behind a hole is in the chunk at which it arrived

module _ (vol : List ℕ) (m : Medium) (st : Store) where
  hole_chunk : (rd : Reader) → (hole_of vol m st rd).reader.chunk ≡ rd.chunk
  unfolding hole_of moved_to
  hole_chunk rd =
      on_result_keeps (λ (t : Taken). t.reader.chunk ≡ rd.chunk) _ _ _ (λ e _. refl)
      (λ to q. pick_keeps (λ (t : Taken). t.reader.chunk ≡ rd.chunk) _ _ _ refl refl)

  take_chunk : (rd : Reader) (out : List ℕ) → (take_of vol m st rd out).ans.reader.chunk ≡ rd.chunk
  unfolding take_of moved_to
  take_chunk rd out =
      on_judged_keeps (λ (o : NextOut). o.ans.reader.chunk ≡ rd.chunk) (record_here vol m st rd rd.index) _ _ _ (λ e. refl) (λ n q. refl) (λ q. hole_chunk rd)

  next_chunk : (rd : Reader) (out : List ℕ) → (next_of vol m st rd out).ans.reader.chunk ≡ (arrive_of vol m st rd).reader.chunk
  unfolding next_of
  next_chunk rd out =
      on_result_keeps (λ (o : NextOut). o.ans.reader.chunk ≡ (arrive_of vol m st rd).reader.chunk) _ _ _ (λ e d. refl)
      (λ b d. pick_keeps (λ (o : NextOut). o.ans.reader.chunk ≡ (arrive_of vol m st rd).reader.chunk) _ _ _ (take_chunk _ out) refl)

  cut_chunk : (limit : ℕ) (rd : Reader) (t : Taken) (x : Result Found Error) → t.reader.chunk ≡ rd.chunk → (cut_at limit st rd t x).reader.chunk ≡ rd.chunk
  unfolding cut_at moved_to
  cut_chunk limit rd t (Err e) h = h
  cut_chunk limit rd t (Ok (found.Payload n)) h = h
  cut_chunk limit rd t (Ok (found.Hole from to)) h = pick_keeps (λ (u : Taken). u.reader.chunk ≡ rd.chunk) _ _ _ refl h
  cut_chunk limit rd t (Ok found.End) h = h

  -- only of a hole: where all below the number was given the reader has not moved
  abbrev Behind : Reader → ℕ → ℕ → NextOut → Type 0
  Behind came from to o = o.ans.next ≡ Ok (found.Hole from to) → o.ans.reader.chunk ≡ came.chunk

  below_chunk : (limit : ℕ) (rd : Reader) (out : List ℕ) {from to : ℕ} → Behind (arrive_of vol m st rd).reader from to (below_of limit vol m st rd out)
  unfolding below_of cut_out
  below_chunk limit rd out {from} {to} =
      pick_keeps (Behind (arrive_of vol m st rd).reader from to) (leb limit (stands_at st rd)) _ _ (λ q. absurd (let z : ◌≡◌ {A = ℕ} 0 1 = cc in omega arith))
      (on_result_keeps (Behind (arrive_of vol m st rd).reader from to) _ _ _ (λ e d q. refl)
      (λ b d. pick_keeps (Behind (arrive_of vol m st rd).reader from to) _ _ _ (λ q. cut_chunk limit _ _ _ (take_chunk _ out)) (λ q. refl)))

-- ---- the answers

-- a hole that is told was found, and its count is that of its sectors
told_hole : (vol : List ℕ) (st : Store) (rd : Reader) (x : Result Found Error) {from to blank : ℕ} → next_answer (counted_of vol st rd x) ≡ ok (hole from to blank)
    → (x ≡ Ok (found.Hole from to)) × (blank ≡ blanks_of vol st rd from to)
unfolding counted_of
told_hole vol st rd (Err e) q = absurd (let z : ◌≡◌ {A = ℕ} 0 1 = cc in omega arith)
told_hole vol st rd (Ok (found.Payload n)) q = absurd (let z : ◌≡◌ {A = ℕ} 0 1 = cc in omega arith)
told_hole vol st rd (Ok (found.Hole a b)) {from} {to} {blank} q =
    let f : a ≡ from = cc in
    let t : b ≡ to = cc in
    let k : blanks_of vol st rd a b ≡ blank = cc in
    (rw (f, t), rw (← f, ← t) (sym k))
told_hole vol st rd (Ok found.End) q = absurd (let z : ◌≡◌ {A = ℕ} 0 1 = cc in omega arith)

module _ (vol : List ℕ) (m : Medium) (st : Store) (rd : Reader) (out : List ℕ) (from to blank : ℕ) where
  abbrev came : Reader
  came = (arrive_of vol m st rd).reader

  -- a hole as 01 has it, and the blank ones among its places
  abbrev Carries : NextCall → Type 0
  Carries c = c.answer ≡ ok (hole from to blank) → HoleIs vol m st came from to × (blank ≡ blank_places vol st came (to - from))

  pub next_carries : (next_call vol m st rd out).answer ≡ ok (hole from to blank) → HoleIs vol m st came from to × (blank ≡ blank_places vol st came (to - from))
  unfolding next_call
  next_carries =
      pick_keeps Carries (ltb (length out) 486) _ _ (λ q. absurd (let z : ◌≡◌ {A = ℕ} 0 1 = cc in omega arith))
      (on_done_keeps Carries (usable_of vol st rd) _ _
      (λ d q.
      let r : Reads rd st = reader_facts rd st (usable_facts vol st rd refl d).1 in
      let t = told_hole vol st (next_of vol m st rd out).ans.reader (next_of vol m st rd out).ans.next q in
      let h : HoleIs vol m st came from to = next_hole vol m st rd out r t.0 in
      let places = hole_places vol m st came (arrive_reads vol m st rd r).reads h to (le_refl to) in
      (h, t.1 ∙ blanks_chunk vol st _ came from to (next_chunk vol m st rd out) ∙ places))
      (λ e d q. absurd (let z : ◌≡◌ {A = ℕ} 0 1 = cc in omega arith)))

-- of a reader up to a number: a first part of such a hole, and the blank ones among the places of that part
module _ (vol : List ℕ) (m : Medium) (st : Store) (u : Upto) (out : List ℕ) (from to blank : ℕ) where
  abbrev there : Reader
  there = (arrive_of vol m st u.reader).reader

  abbrev CarriesCut : UptoCall → Type 0
  CarriesCut c = c.answer ≡ ok (hole from to blank) → Cut vol m st there from to × (blank ≡ blank_places vol st there (to - from))

  pub below_carries : (below_call vol m st u out).answer ≡ ok (hole from to blank) → Cut vol m st there from to × (blank ≡ blank_places vol st there (to - from))
  unfolding below_call
  below_carries =
      pick_keeps CarriesCut (ltb (length out) 486) _ _ (λ q. absurd (let z : ◌≡◌ {A = ℕ} 0 1 = cc in omega arith))
      (on_done_keeps CarriesCut (usable_of vol st u.reader) _ _
      (λ d q.
      let r : Reads u.reader st = reader_facts u.reader st (usable_facts vol st u.reader refl d).1 in
      let b = (below_of u.limit vol m st u.reader out).ans in
      let t = told_hole vol st b.reader b.next q in
      let c : Cut vol m st there from to = below_cut vol m st u.limit u.reader out from to r t.0 in
      let places = hole_places vol m st there (arrive_reads vol m st u.reader r).reads c.is to c.most in
      (c, t.1 ∙ blanks_chunk vol st _ there from to (below_chunk vol m st u.limit u.reader out t.0) ∙ places))
      (λ e d q. absurd (let z : ◌≡◌ {A = ℕ} 0 1 = cc in omega arith)))
