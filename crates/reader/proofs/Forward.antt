-- S-1, S-12: a reader goes forward: behind a payload or a hole the number of the record that comes next is larger. So a walk over the items of a file
-- ends. Assumes nothing.
use Rattle.std.specs.Prelude.{Err, Ok, Result}
use Rattle.medium.specs.declared.Error.{Error}
use mathlib.Core.Path.{◌≡◌, refl, ap, subst, ◌∙◌}
use mathlib.Core.Bool.{Bool}
use mathlib.Core.List.{List}
use Prim.Native.Nat.{ℕ, ◌+◌, ◌*◌, ◌≤◌, ◌<◌}
use native.Mathlib.Nat.{le_refl, add-mul, one-mul}
use native.Mathlib.Omega.{arith}
use Rattle.le.proofs.Choices.{pick_keeps, pick_keeps_by}
use Rattle.walk.specs.Walk.{Visit, next, stop}
use Rattle.walk.proofs.Laws.{walk_keeps}
use Rattle.medium.specs.declared.Medium.{Medium}
use Rattle.handles.specs.declared.Store.{Store}
use Rattle.table.specs.Table.{locate_of}
use Rattle.table.proofs.Decides.{on_place_keeps}
use Rattle.record.specs.Record.{number_at}
use Rattle.record.proofs.Laws.{on_judged_keeps, on_result_keeps}
use Rattle.reader.specs.declared.Reader.{Reader}
use Rattle.reader.specs.declared.Arrived.{Arrived}
use Rattle.reader.specs.declared.Found.{Found}
use Rattle.reader.specs.declared.Found.TheVariants as found
use Rattle.reader.specs.declared.Taken.{Taken}
use Rattle.reader.specs.Reader.{moved_to, inside_of, enter_of}
use Rattle.reader.specs.Next.{passed_end, limit_of, arrive_step, arrive_of, record_here, search_of, hole_of, NextOut, take_of, next_of}
use Rattle.reader.specs.Upto.{stands_at}
use Rattle.reader.proofs.Facts.{Reads}
use Rattle.reader.proofs.Moves.{moved_same, moved_none, enter_reads, enter_inside, Arrives, arrive_reads}
use Rattle.reader.proofs.Finds.{search_range}

-- ---- numbers

-- the next chunk begins where this one ends
pub number_step : (k size i : ℕ) → i ≤ size → number_at k size i ≤ number_at (k + 1) size 0
unfolding number_at
number_step k size i h = let e : (k + 1) * size ≡ k * size + size = rw (add-mul, one-mul) in rw e (go (k * size))
  where
    go : (b : ℕ) → b + i ≤ b + size + 0
    go b = omega arith

pub number_more : (k size i j : ℕ) → i < j → number_at k size i < number_at k size j
unfolding number_at
number_more k size i j h = go (k * size)
  where
    go : (b : ℕ) → b + i < b + j
    go b = omega arith

-- ---- passing chunks

module _ (vol : List ℕ) (m : Medium) (st : Store) where
  enter_starts : (rd : Reader) (position : ℕ) {r : Reader} → enter_of vol m st rd position 0 ≡ Ok r → r.index ≡ 0
  unfolding enter_of inside_of
  enter_starts rd position {r} =
      on_place_keeps (λ (s : Result Reader Error). s ≡ Ok r → r.index ≡ 0) (locate_of vol m st rd.slot position) _ _ (λ e q z. moved_none z)
      (λ c l q z. moved_same (λ (v : Reader). v.index ≡ 0) z refl)

  record On (k : ℕ) (rd : Reader) (chunks n : ℕ) : Type 0 where
    pub reads : Reads rd st
    pub at : rd.position ≡ k
    pub all : rd.chunks ≡ chunks
    pub from : n ≤ stands_at st rd

  module _ (chunks n k : ℕ) (rd : Reader) (h : k < chunks) (p : On k rd chunks n) where
    on : {r : Reader} → enter_of vol m st rd (k + 1) 0 ≡ Ok r → On (k + 1) r chunks n
    unfolding stands_at
    on o =
        let i = enter_inside vol m st rd (k + 1) 0 o in
        let z = enter_starts rd (k + 1) o in
        let s : number_at k st.head.chunk rd.index ≤ number_at (k + 1) st.head.chunk 0 = number_step k st.head.chunk rd.index p.reads.index in
        let f : n ≤ number_at k st.head.chunk rd.index = rw (← p.at) p.from in
        record {
          reads = enter_reads vol m st rd (k + 1) 0 p.reads (omega (arith, p.all)) (omega arith) o;
          at = i.0;
          all = i.1 ∙ p.all;
          from = rw (i.0, z) (omega (arith, s, f));
        }

    goes : (u : Reader) → arrive_step vol m st k rd ≡ next u → On (k + 1) u chunks n
    unfolding arrive_step
    goes u =
        pick_keeps_by (λ (s : Visit Reader Arrived). s ≡ next u → On (k + 1) u chunks n) (passed_end rd.end rd.index) _ _
        (λ t. on_result_keeps (λ (s : Visit Reader Arrived). s ≡ next u → On (k + 1) u chunks n) (enter_of vol m st rd (k + 1) 0) _ _
        (λ x o q. absurd (let z : ◌≡◌ {A = ℕ} 0 1 = cc in omega arith))
        (λ r o q. let z : r ≡ u = cc in subst (λ (v : Reader). On (k + 1) v chunks n) z (on o)))
        (λ t q. absurd (let z : ◌≡◌ {A = ℕ} 0 1 = cc in omega arith))

    -- only where it is not refused
    abbrev Further : Arrived → Type 0
    Further a = (b : Bool) → a.more ≡ Ok b → n ≤ stands_at st a.reader

    stops : (a : Arrived) → arrive_step vol m st k rd ≡ stop a → (b : Bool) → a.more ≡ Ok b → n ≤ stands_at st a.reader
    unfolding arrive_step
    stops a =
        pick_keeps_by (λ (s : Visit Reader Arrived). s ≡ stop a → Further a) (passed_end rd.end rd.index) _ _
        (λ t. on_result_keeps (λ (s : Visit Reader Arrived). s ≡ stop a → Further a) (enter_of vol m st rd (k + 1) 0) _ _
        (λ x o q.
        let z : ◌≡◌ {A = Result Bool Error} (Err x) a.more = cc in
        λ b d. absurd (let y : ◌≡◌ {A = Result Bool Error} (Err x) (Ok b) = z ∙ d in let w : ◌≡◌ {A = ℕ} 0 1 = cc in omega arith))
        (λ r o q. absurd (let z : ◌≡◌ {A = ℕ} 0 1 = cc in omega arith)))
        (λ t q.
        let z : rd ≡ a.reader = cc in
        λ b d. subst (λ (v : Reader). n ≤ stands_at st v) z p.from)

  pub arrive_forward : (rd : Reader) → Reads rd st → (b : Bool) → (arrive_of vol m st rd).more ≡ Ok b → stands_at st rd ≤ stands_at st (arrive_of vol m st rd).reader
  unfolding arrive_of
  arrive_forward rd r =
      walk_keeps (arrive_step vol m st) _ rd.chunks (λ k t. On k t rd.chunks (stands_at st rd)) (λ (a : Arrived). (b : Bool) → a.more ≡ Ok b → stands_at st rd ≤ stands_at st a.reader)
      (λ k t u h p. goes rd.chunks (stands_at st rd) k t h p u) (λ k t a h p. stops rd.chunks (stands_at st rd) k t h p a)
      (λ t p b d. p.from)
      rd.position rd r.position (record { reads = r; at = refl; all = refl; from = le_refl (stands_at st rd) })

  -- ---- next

  abbrev Passes : ℕ → Result Found Error → Reader → Type 0
  Passes n (Err e) rd = Unit {0}
  Passes n (Ok (found.Payload k)) rd = n < stands_at st rd
  Passes n (Ok (found.Hole a b)) rd = n < stands_at st rd
  Passes n (Ok found.End) rd = Unit {0}

  abbrev Goes : ℕ → Taken → Type 0
  Goes n t = Passes n t.next t.reader

  module _ (n : ℕ) (rd : Reader) (b : rd.index < limit_of rd.end st.head.chunk) (f : n ≤ stands_at st rd) where
    later : (j : ℕ) → rd.index < j → n < stands_at st (moved_to rd rd.position j)
    unfolding stands_at moved_to
    later j h =
        let s : number_at rd.position st.head.chunk rd.index < number_at rd.position st.head.chunk j = number_more rd.position st.head.chunk rd.index j h in
        omega (arith, s, f)

    hole_goes : Goes n (hole_of vol m st rd)
    unfolding hole_of
    hole_goes =
        on_result_keeps (Goes n) (search_of vol m st rd (rd.index + 1) (limit_of rd.end st.head.chunk)) _ _ (λ e _. tt)
        (λ to q. pick_keeps (Goes n) _ _ _ tt
        (let w = search_range vol m st rd (rd.index + 1) (limit_of rd.end st.head.chunk) (omega arith) q in later to (omega (arith, w.passed.low))))

    take_goes : (out : List ℕ) → Goes n (take_of vol m st rd out).ans
    unfolding take_of
    take_goes out =
        on_judged_keeps (λ (o : NextOut). Goes n o.ans) (record_here vol m st rd rd.index) _ _ _ (λ e. tt) (λ k q. later (rd.index + 1) (omega arith)) (λ q. hole_goes)

  pub next_forward : (rd : Reader) (out : List ℕ) → Reads rd st → Goes (stands_at st rd) (next_of vol m st rd out).ans
  unfolding next_of
  next_forward rd out r =
      let a : Arrives st (arrive_of vol m st rd) = arrive_reads vol m st rd r in
      on_result_keeps (λ (o : NextOut). Goes (stands_at st rd) o.ans) (arrive_of vol m st rd).more _ _ (λ e o. tt)
      (λ more o.
      pick_keeps_by (λ (x : NextOut). Goes (stands_at st rd) x.ans) more _ _
      (λ t. take_goes (stands_at st rd) (arrive_of vol m st rd).reader (a.below (o ∙ ap Ok t)) (arrive_forward rd r more o) out)
      (λ t. tt))
