-- S-1: a walk over what a reader gives ends by itself, before its turns are up: each turn that goes on raises the number of the record that comes next,
-- and a file has at most 2,048 chunks of 512 records. And a reader stays one of its file. Assumes nothing.
use Rattle.std.specs.Prelude.{Err, Result, Ok}
use Rattle.medium.specs.declared.Error.{Error}
use Prim.Native.Nat.{ℕ, zero, suc, ◌+◌, ◌*◌, ◌≤◌, ◌<◌}
use mathlib.Core.Path.{◌≡◌, refl, ap, sym, subst, ◌∙◌}
use mathlib.Core.Logic.{◌⊎◌, inl, inr}
use mathlib.Core.Bool.{true}
use mathlib.Core.List.{List}
use native.Mathlib.Nat.{mul-le-mul_left}
use native.Mathlib.Omega.{arith}
use lib.Dec.{ltb, lit≤}
use lib.ListN.{length, take}
use Rattle.le.specs.Part.{zeros}
use Rattle.le.proofs.Parts.{length_zeros}
use Rattle.le.proofs.Choices.{pick_keeps, pick_keeps_by}
use Rattle.walk.specs.Walk.{Visit, next, stop, after_visit, walk, rest}
use Rattle.walk.proofs.Laws.{walk_keeps}
use Rattle.std.specs.Prelude.{Option, Some, None}
use Rattle.marks.specs.declared.Mark.{Mark}
use Rattle.medium.specs.declared.Medium.{Medium}
use Rattle.medium.specs.Refusal.{Answer, ok, refused, on_ok}
use Rattle.medium.specs.Sector.{sectors_of}
use Rattle.medium.proofs.Laws.{on_done_keeps}
use Rattle.handles.specs.declared.Store.{Store}
use Rattle.handles.specs.Handles.{store_ok}
use Rattle.handles.proofs.Laws.{store_facts}
use Rattle.record.specs.Record.{number_at}
use Rattle.record.proofs.Laws.{on_judged_keeps, on_result_keeps}
use Rattle.table.specs.Table.{locate_of}
use Rattle.table.proofs.Decides.{on_place_keeps}
use Rattle.reader.specs.declared.Reader.{Reader}
use Rattle.reader.specs.declared.Arrived.{Arrived}
use Rattle.reader.specs.declared.Found.{Found}
use Rattle.reader.specs.declared.Found.TheVariants as found
use Rattle.reader.specs.declared.Taken.{Taken}
use Rattle.reader.specs.Reader.{moved_to, inside_of, enter_of}
use Rattle.reader.specs.Next.{passed_end, limit_of, arrive_step, arrive_of, record_here, search_of, hole_of, NextOut, take_of, next_of}
use Rattle.reader.specs.Blank.{counted_of}
use Rattle.reader.specs.Calls.{usable_of, Item, payload, hole, end, next_answer, NextCall, next_call}
use Rattle.reader.specs.Upto.{stands_at}
use Rattle.reader.proofs.Facts.{Reads, reader_facts, usable_facts}
use Rattle.reader.proofs.Moves.{moved_same, moved_none, enter_inside}
use Rattle.reader.proofs.Finds.{next_finds}
use Rattle.reader.proofs.Forward.{next_forward}
use Rattle.points.specs.declared.Seen.{Seen}
use Rattle.points.specs.Look.{after_mark, after_item, turn_of, turns, walk_of}

-- ---- a reader stays in its file, and where there is more it is in one of its chunks

module _ (vol : List ℕ) (m : Medium) (st : Store) where
  enter_id : (rd : Reader) (position index : ℕ) {r : Reader} → enter_of vol m st rd position index ≡ Ok r → r.id ≡ rd.id
  unfolding enter_of inside_of
  enter_id rd position index {r} =
      on_place_keeps (λ (s : Result Reader Error). s ≡ Ok r → r.id ≡ rd.id) (locate_of vol m st rd.slot position) _ _ (λ e q z. moved_none z)
      (λ c l q z. moved_same (λ (v : Reader). v.id ≡ rd.id) z refl)

  record On (chunks id k : ℕ) (rd : Reader) : Type 0 where
    at : rd.position ≡ k
    all : rd.chunks ≡ chunks
    file : rd.id ≡ id

  record Came (id : ℕ) (a : Arrived) : Type 0 where
    file : a.reader.id ≡ id
    inside : a.more ≡ Ok true → a.reader.position < a.reader.chunks

  module _ (chunks id k : ℕ) (rd : Reader) (h : k < chunks) (p : On chunks id k rd) where
    goes : (u : Reader) → arrive_step vol m st k rd ≡ next u → On chunks id (k + 1) u
    unfolding arrive_step
    goes u =
        pick_keeps_by (λ (s : Visit Reader Arrived). s ≡ next u → On chunks id (k + 1) u) (passed_end rd.end rd.index) _ _
        (λ t. on_result_keeps (λ (s : Visit Reader Arrived). s ≡ next u → On chunks id (k + 1) u) (enter_of vol m st rd (k + 1) 0) _ _
        (λ x o q. absurd (let z : ◌≡◌ {A = ℕ} 0 1 = cc in omega arith))
        (λ r o q.
        let i = enter_inside vol m st rd (k + 1) 0 o in
        let z : r ≡ u = cc in
        subst (On chunks id (k + 1)) z record { at = i.0; all = i.1 ∙ p.all; file = enter_id rd (k + 1) 0 o ∙ p.file }))
        (λ t q. absurd (let z : ◌≡◌ {A = ℕ} 0 1 = cc in omega arith))

    stops : (a : Arrived) → arrive_step vol m st k rd ≡ stop a → Came id a
    unfolding arrive_step
    stops a =
        pick_keeps_by (λ (s : Visit Reader Arrived). s ≡ stop a → Came id a) (passed_end rd.end rd.index) _ _
        (λ t. on_result_keeps (λ (s : Visit Reader Arrived). s ≡ stop a → Came id a) (enter_of vol m st rd (k + 1) 0) _ _
        (λ x o q.
        let z : ◌≡◌ {A = Arrived} (record { reader = rd; more = Err x }) a = cc in
        subst (Came id) z record { file = p.file; inside = λ y. absurd (let z : ◌≡◌ {A = ℕ} 0 1 = cc in omega arith) })
        (λ r o q. absurd (let z : ◌≡◌ {A = ℕ} 0 1 = cc in omega arith)))
        (λ t q.
        let z : rd ≡ a.reader = cc in
        record { file = ap (λ (r : Reader). r.id) (sym z) ∙ p.file; inside = λ y. subst (λ (r : Reader). r.position < r.chunks) z (omega (arith, p.at, p.all, h)) })

  arrive_came : (rd : Reader) → rd.position ≤ rd.chunks → Came rd.id (arrive_of vol m st rd)
  unfolding arrive_of
  arrive_came rd h =
      walk_keeps (arrive_step vol m st) _ rd.chunks (On rd.chunks rd.id) (Came rd.id)
      (λ k t u l p. goes rd.chunks rd.id k t l p u) (λ k t a l p. stops rd.chunks rd.id k t l p a)
      (λ t p. record { file = p.file; inside = λ y. absurd (let z : ◌≡◌ {A = ℕ} 0 1 = cc in omega arith) })
      rd.position rd h (record { at = refl; all = refl; file = refl })

  -- behind a payload or a hole
  abbrev Within : Result Found Error → Reader → Type 0
  Within (Err e) rd = Unit {0}
  Within (Ok (found.Payload n)) rd = rd.position < rd.chunks
  Within (Ok (found.Hole a b)) rd = rd.position < rd.chunks
  Within (Ok found.End) rd = Unit {0}

  abbrev Stays : ℕ → Taken → Type 0
  Stays id t = (t.reader.id ≡ id) × Within t.next t.reader

  module _ (id : ℕ) (rd : Reader) (f : rd.id ≡ id) (b : rd.position < rd.chunks) where
    hole_stays : Stays id (hole_of vol m st rd)
    unfolding hole_of moved_to
    hole_stays =
        on_result_keeps (Stays id) (search_of vol m st rd (rd.index + 1) (limit_of rd.end st.head.chunk)) _ _ (λ e _. (f, tt))
        (λ to q. pick_keeps (Stays id) _ _ _ (f, tt) (f, b))

    take_stays : (out : List ℕ) → Stays id (take_of vol m st rd out).ans
    unfolding take_of moved_to
    take_stays out =
        on_judged_keeps (λ (o : NextOut). Stays id o.ans) (record_here vol m st rd rd.index) _ _ _ (λ e. (f, tt)) (λ k q. (f, b)) (λ q. hole_stays)

  next_stays : (rd : Reader) (out : List ℕ) → rd.position ≤ rd.chunks → Stays rd.id (next_of vol m st rd out).ans
  unfolding next_of
  next_stays rd out h =
      let a : Came rd.id (arrive_of vol m st rd) = arrive_came rd h in
      on_result_keeps (λ (o : NextOut). Stays rd.id o.ans) (arrive_of vol m st rd).more _ _ (λ e o. (a.file, tt))
      (λ more o.
      pick_keeps_by (λ (x : NextOut). Stays rd.id x.ans) more _ _
      (λ t. take_stays rd.id (arrive_of vol m st rd).reader a.file (a.inside (o ∙ ap Ok t)) out)
      (λ t. (a.file, tt)))

  -- the reader that next hands back is one of the same file
  pub next_id : (rd : Reader) (out : List ℕ) → (next_call vol m st rd out).reader.id ≡ rd.id
  unfolding next_call
  next_id rd out =
      pick_keeps (λ (c : NextCall). c.reader.id ≡ rd.id) (ltb (length out) 486) _ _ refl
      (on_done_keeps (λ (c : NextCall). c.reader.id ≡ rd.id) (usable_of vol st rd) _ _
      (λ q. (next_stays rd out (reader_facts rd st (usable_facts vol st rd refl q).1).position).0)
      (λ e q. refl))

  -- ---- the numbers that a turn leaves

  pub stands_most : (rd : Reader) → store_ok st (sectors_of vol) ≡ true → Reads rd st → stands_at st rd ≤ rd.position * 512 + 512
  unfolding stands_at number_at
  stands_most rd s r =
      let size : st.head.chunk ≤ 512 = (store_facts st (sectors_of vol) s).head.size_most in
      go (rd.position * st.head.chunk) (mul-le-mul_left rd.position size) (omega (arith, r.index, size))
    where
      go : (b : ℕ) → b ≤ rd.position * 512 → rd.index ≤ 512 → b + rd.index ≤ rd.position * 512 + 512
      go b p i = omega (arith, p, i)

  abbrev Raised : ℕ → Answer Item → Reader → Type 0
  Raised n (refused e) rd = Unit {0}
  Raised n (ok (payload k)) rd = (n < stands_at st rd) × (stands_at st rd ≤ 1048576)
  Raised n (ok (hole a b k)) rd = (n < stands_at st rd) × (stands_at st rd ≤ 1048576)
  Raised n (ok end) rd = Unit {0}

  module _ (rd : Reader) (out : List ℕ) (enough : 486 ≤ length out) (ok_store : store_ok st (sectors_of vol) ≡ true) (r : Reads rd st) where
    abbrev taken : Taken
    taken = (next_of vol m st rd out).ans

    most : taken.reader.position < taken.reader.chunks → stands_at st taken.reader ≤ 1048576
    most h =
        let q = (next_finds vol m st out ok_store enough rd r).reads in
        omega (arith, stands_most taken.reader ok_store q, q.chunks_most, h)

    taken_raised : (x : Result Found Error) → taken.next ≡ x → Raised (stands_at st rd) (next_answer (counted_of vol st taken.reader x)) taken.reader
    unfolding counted_of
    taken_raised (Err e) q = tt
    taken_raised (Ok (found.Payload n)) q = (rw q at (next_forward vol m st rd out r), most (rw q at (next_stays rd out r.position).1))
    taken_raised (Ok (found.Hole a b)) q = (rw q at (next_forward vol m st rd out r), most (rw q at (next_stays rd out r.position).1))
    taken_raised (Ok found.End) q = tt

  next_raised : (rd : Reader) (out : List ℕ) → 486 ≤ length out → Raised (stands_at st rd) (next_call vol m st rd out).answer (next_call vol m st rd out).reader
  unfolding next_call
  next_raised rd out enough =
      pick_keeps (λ (c : NextCall). Raised (stands_at st rd) c.answer c.reader) (ltb (length out) 486) _ _ tt
      (on_done_keeps (λ (c : NextCall). Raised (stands_at st rd) c.answer c.reader) (usable_of vol st rd) _ _
      (λ q.
      let u = usable_facts vol st rd refl q in
      taken_raised rd out enough u.0 (reader_facts rd st u.1) (next_of vol m st rd out).ans.next refl)
      (λ e q. tt))

  -- ---- the walk

  module _ (says : List ℕ → Option Mark) where
    mark_on : (x : Option Mark) (rd u : Reader) → after_mark x rd ≡ next u → rd ≡ u
    unfolding after_mark
    mark_on None rd u q = cc
    mark_on (Some said) rd u q = absurd (let z : ◌≡◌ {A = ℕ} 0 1 = cc in omega arith)

    on_raised : (n : ℕ) (a : Answer Item) (out : List ℕ) (rd u : Reader) → Raised n a rd → on_ok a (after_item says out rd) (λ k. stop (refused k)) ≡ next u
        → (n < stands_at st u) × (stands_at st u ≤ 1048576)
    unfolding on_ok after_item
    on_raised n (refused e) out rd u r q = absurd (let z : ◌≡◌ {A = ℕ} 0 1 = cc in omega arith)
    on_raised n (ok (payload k)) out rd u r q = subst (λ (v : Reader). (n < stands_at st v) × (stands_at st v ≤ 1048576)) (mark_on (says (take k out)) rd u q) r
    on_raised n (ok (hole a b k)) out rd u r q = let z : rd ≡ u = cc in subst (λ (v : Reader). (n < stands_at st v) × (stands_at st v ≤ 1048576)) z r
    on_raised n (ok end) out rd u r q = absurd (let z : ◌≡◌ {A = ℕ} 0 1 = cc in omega arith)

    turn_raised : (rd u : Reader) → turn_of says vol m st rd ≡ next u → (stands_at st rd < stands_at st u) × (stands_at st u ≤ 1048576)
    unfolding turn_of
    turn_raised rd u q =
        let e : 486 ≤ length (zeros 486) = rw (length_zeros 486) (lit≤ tt) in
        on_raised (stands_at st rd) (next_call vol m st rd (zeros 486)).answer (next_call vol m st rd (zeros 486)).out _ u (next_raised rd (zeros 486) e) q

    -- as many turns are left as numbers
    ends : (d e : Reader → Answer Seen) (count i : ℕ) (rd : Reader) → i + count ≡ turns → i ≤ stands_at st rd → (i ≡ 0) ⊎ (stands_at st rd ≤ 1048576)
        → walk (λ k. turn_of says vol m st) d count i rd ≡ walk (λ k. turn_of says vol m st) e count i rd
    unfolding walk
    ends d e zero i rd s f (inl z) = absurd (omega (arith, s, z))
    ends d e zero i rd s f (inr l) = absurd (omega (arith, s, f, l))
    ends d e (suc count) i rd s f o = go (λ u a b. ends d e count (i + 1) u (omega arith) a (inr b)) (turn_of says vol m st rd) refl
      where
        go : ((u : Reader) → i + 1 ≤ stands_at st u → stands_at st u ≤ 1048576 → walk (λ k. turn_of says vol m st) d count (i + 1) u ≡ walk (λ k. turn_of says vol m st) e count (i + 1) u)
            → (x : Visit Reader (Answer Seen)) → turn_of says vol m st rd ≡ x
            → after_visit x (λ u. walk (λ k. turn_of says vol m st) d count (i + 1) u) ≡ after_visit x (λ u. walk (λ k. turn_of says vol m st) e count (i + 1) u)
        go more (next u) q = let r = turn_raised rd u q in more u (omega (arith, r.0, f)) r.1
        go more (stop a) q = refl

    -- whatever stands for the last clause of the walk
    pub walk_ends : (rd : Reader) (d : Reader → Answer Seen) → rest (λ k. turn_of says vol m st) d turns 0 rd ≡ walk_of says vol m st rd
    unfolding walk_of
    walk_ends rd d = ends d _ turns 0 rd (omega arith) (omega arith) (inl refl)
