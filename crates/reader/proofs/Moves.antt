-- Entering a chunk, seeking, and passing chunks: what each answers and keeps. Assumes nothing.
use Rattle.std.specs.Prelude.{Err, Ok, Result}
use mathlib.Core.Path.{◌≡◌, refl, sym, ap₂, ◌∙◌, subst}
use mathlib.Core.Bool.{Bool, true, false, not}
use mathlib.Core.List.{List}
use Prim.Native.Nat.{ℕ, ◌+◌, ◌/◌, ◌%◌, ◌≤◌, ◌<◌}
use native.Mathlib.Nat.{le_refl, mod-lt}
use native.Mathlib.Omega.{arith}
use borrow.Author.Tests.{leb-false, eqb-false, not-true, le-leb}
use lib.Dec.{leb, eqb}
use Rattle.le.specs.Choice.{pick}
use Rattle.le.proofs.Choices.{pick_keeps_by, pick_true, pick_false}
use Rattle.le.proofs.Turns.{told}
use Rattle.walk.specs.Walk.{Visit, next, stop, rest}
use Rattle.walk.proofs.Laws.{rest_next, rest_stop, rest_end, walk_keeps}
use Rattle.medium.specs.declared.Error.{Error}
use Rattle.medium.specs.declared.Medium.{Medium}
use Rattle.handles.specs.declared.Store.{Store}
use Rattle.table.specs.Table.{locate_of}
use Rattle.table.proofs.Walks.{locate_range}
use Rattle.table.proofs.Decides.{on_place_keeps}
use Rattle.record.specs.Record.{on_result}
use Rattle.record.proofs.Laws.{on_result_keeps}
use Rattle.reader.specs.declared.Reader.{Reader}
use Rattle.reader.specs.declared.Arrived.{Arrived}
use Rattle.reader.specs.Reader.{moved_to, inside_of, enter_of, seek_of}
use Rattle.reader.specs.Next.{passed_end, limit_of, arrive_step, arrive_of}
use Rattle.reader.proofs.Facts.{Reads, below_limit, moved_reads, inside_reads}

-- ---- entering

-- what holds of the reader that a move gives holds of it by any name
pub moved_same : (P : Reader → Type 0) {a r : Reader} → ◌≡◌ {A = Result Reader Error} (Ok a) (Ok r) → P a → P r
moved_same P {a} {r} q p = let z : a ≡ r = cc in subst P z p

-- a refused move gives none
pub moved_none : {A : Type 0} {e : Error} {r : Reader} → ◌≡◌ {A = Result Reader Error} (Err e) (Ok r) → A
moved_none q = absurd (let z : ◌≡◌ {A = ℕ} 0 1 = cc in omega arith)

module _ (vol : List ℕ) (m : Medium) (st : Store) (rd : Reader) (position index : ℕ) {r : Reader} where
  pub enter_reads : Reads rd st → position ≤ rd.chunks → index ≤ st.head.chunk → enter_of vol m st rd position index ≡ Ok r → Reads r st
  unfolding enter_of
  enter_reads a p i =
      on_place_keeps (λ (s : Result Reader Error). s ≡ Ok r → Reads r st) (locate_of vol m st rd.slot position) _ _ (λ e q z. moved_none z)
      (λ c l q z.
      let f = locate_range vol m st rd.slot position q in
      moved_same (λ (v : Reader). Reads v st) z (inside_reads st rd position index c l a p i f.chunk (omega (arith, f.sound.records))))

  -- not refused, the reader is at the position, in the same file
  pub enter_inside : enter_of vol m st rd position index ≡ Ok r → (r.position ≡ position) × (r.chunks ≡ rd.chunks)
  unfolding enter_of inside_of
  enter_inside =
      on_place_keeps (λ (s : Result Reader Error). s ≡ Ok r → (r.position ≡ position) × (r.chunks ≡ rd.chunks)) (locate_of vol m st rd.slot position) _ _ (λ e q z. moved_none z)
      (λ c l q z. moved_same (λ (v : Reader). (v.position ≡ position) × (v.chunks ≡ rd.chunks)) z (refl, refl))

-- ---- seeking

pub seek_reads : (vol : List ℕ) (m : Medium) (st : Store) (rd : Reader) (number : ℕ) {r : Reader} → 1 ≤ st.head.chunk → Reads rd st → seek_of vol m st rd number ≡ Ok r → Reads r st
unfolding seek_of
seek_reads vol m st rd number {r} s a =
    let i : number % st.head.chunk < st.head.chunk = mod-lt number (omega arith) in
    pick_keeps_by (λ (x : Result Reader Error). x ≡ Ok r → Reads r st) (leb rd.chunks (number / st.head.chunk)) _ _
    (λ t z. moved_same (λ (v : Reader). Reads v st) z (moved_reads st rd rd.chunks 0 a (le_refl rd.chunks) (omega arith)))
    (λ t.
    let p : number / st.head.chunk < rd.chunks = leb-false _ _ t in
    pick_keeps_by (λ (x : Result Reader Error). x ≡ Ok r → Reads r st) (eqb (number / st.head.chunk) rd.position) _ _
    (λ u z. moved_same (λ (v : Reader). Reads v st) z (moved_reads st rd (number / st.head.chunk) (number % st.head.chunk) a (omega arith) (omega arith)))
    (λ u. enter_reads vol m st rd (number / st.head.chunk) (number % st.head.chunk) a (omega arith) (omega arith)))

-- past the chunks nothing is read
pub seek_past : (vol : List ℕ) (m : Medium) (st : Store) (rd : Reader) (number : ℕ) → rd.chunks ≤ number / st.head.chunk
    → seek_of vol m st rd number ≡ Ok (moved_to rd rd.chunks 0)
unfolding seek_of pick
seek_past vol m st rd number h = rw (le-leb _ _ h)

-- ---- passing chunks

module _ (vol : List ℕ) (m : Medium) (st : Store) (rd : Reader) where
  pub arrive_here : rd.position < rd.chunks → passed_end rd.end rd.index ≡ false
      → arrive_of vol m st rd ≡ record { reader = rd; more = Ok (not (eqb rd.index st.head.chunk)) }
  unfolding arrive_of arrive_step
  arrive_here h e = rest_stop _ _ rd.chunks rd.position rd _ h (pick_false _ _ e)

  pub arrive_end : rd.chunks ≤ rd.position → arrive_of vol m st rd ≡ record { reader = rd; more = Ok false }
  unfolding arrive_of
  arrive_end h = rest_end _ _ rd.chunks rd.position rd h

  pub arrive_on : {r : Reader} → rd.position < rd.chunks → passed_end rd.end rd.index ≡ true → enter_of vol m st rd (rd.position + 1) 0 ≡ Ok r → arrive_of vol m st rd ≡ arrive_of vol m st r
  unfolding arrive_of arrive_step on_result
  arrive_on {r} h e q =
      let i = enter_inside vol m st rd (rd.position + 1) 0 q in
      rest_next (arrive_step vol m st) _ rd.chunks rd.position rd r h (pick_true _ _ e ∙ rw q)
      ∙ ap₂ (λ (n k : ℕ). rest (arrive_step vol m st) (λ v. record { reader = v; more = Ok false }) n k r) (sym i.1) (sym i.0)

  -- the loop has come to a position, with this reader: it goes on as from there
  pub record Arriving (k : ℕ) (r : Reader) : Type 0 where
    pub same : rest (arrive_step vol m st) (λ v. record { reader = v; more = Ok false }) rd.chunks k r ≡ arrive_of vol m st rd

  pub arriving_start : Arriving rd.position rd
  unfolding arrive_of
  arriving_start = record { same = refl }

  module _ {k : ℕ} {r : Reader} (at : Arriving k r) where
    pub arriving_end : rd.chunks ≤ k → record { reader = r; more = Ok false } ≡ arrive_of vol m st rd
    arriving_end h = sym (rest_end _ _ rd.chunks k r h) ∙ at.same

    module _ (h : k < rd.chunks) {b : Bool} (asked : b ≡ passed_end r.end r.index) where
      pub arriving_here : b ≡ false → record { reader = r; more = Ok (not (eqb r.index st.head.chunk)) } ≡ arrive_of vol m st rd
      unfolding arrive_step
      arriving_here e = sym (rest_stop _ _ rd.chunks k r _ h (pick_false _ _ (told asked e))) ∙ at.same

      module _ (e : b ≡ true) {d : Result Reader Error} (q : d ≡ enter_of vol m st r (k + 1) 0) where
        pub arriving_refused : {x : Error} → d ≡ Err x → record { reader = r; more = Err x } ≡ arrive_of vol m st rd
        unfolding arrive_step on_result
        arriving_refused o = sym (rest_stop _ _ rd.chunks k r _ h (pick_true _ _ (told asked e) ∙ rw (← q, o))) ∙ at.same

        pub arriving_next : {r' : Reader} → d ≡ Ok r' → Arriving (k + 1) r'
        unfolding arrive_step on_result
        arriving_next {r'} o = record { same = sym (rest_next (arrive_step vol m st) _ rd.chunks k r r' h (pick_true _ _ (told asked e) ∙ rw (← q, o))) ∙ at.same }

-- where a reader arrives it passes, and there is more only below its chunk's end
pub record Arrives (st : Store) (a : Arrived) : Type 0 where
  pub reads : Reads a.reader st
  pub below : a.more ≡ Ok true → a.reader.index < limit_of a.reader.end st.head.chunk

module _ (vol : List ℕ) (m : Medium) (st : Store) where
  record On (k : ℕ) (rd : Reader) (chunks : ℕ) : Type 0 where
    pub reads : Reads rd st
    pub at : rd.position ≡ k
    pub all : rd.chunks ≡ chunks

  here : (rd : Reader) → Reads rd st → passed_end rd.end rd.index ≡ false → Arrives st (record { reader = rd; more = Ok (not (eqb rd.index st.head.chunk)) })
  here rd r e =
      record {
        reads = r;
        below = λ t. let z : not (eqb rd.index st.head.chunk) ≡ true = cc in below_limit rd.end rd.index st.head.chunk e r.index (eqb-false _ _ (not-true _ z));
      }

  module _ (chunks k : ℕ) (rd : Reader) (h : k < chunks) (p : On k rd chunks) where
    goes : (u : Reader) → arrive_step vol m st k rd ≡ next u → On (k + 1) u chunks
    unfolding arrive_step
    goes u =
        pick_keeps_by (λ (s : Visit Reader Arrived). s ≡ next u → On (k + 1) u chunks) (passed_end rd.end rd.index) _ _
        (λ t. on_result_keeps (λ (s : Visit Reader Arrived). s ≡ next u → On (k + 1) u chunks) (enter_of vol m st rd (k + 1) 0) _ _
        (λ x o q. absurd (let z : ◌≡◌ {A = ℕ} 0 1 = cc in omega arith))
        (λ r o q. let i = enter_inside vol m st rd (k + 1) 0 o in
        let z : r ≡ u = cc in
        subst (λ (v : Reader). On (k + 1) v chunks) z record { reads = enter_reads vol m st rd (k + 1) 0 p.reads (omega (arith, p.all)) (omega arith) o; at = i.0; all = i.1 ∙ p.all }))
        (λ t q. absurd (let z : ◌≡◌ {A = ℕ} 0 1 = cc in omega arith))

    stops : (a : Arrived) → arrive_step vol m st k rd ≡ stop a → Arrives st a
    unfolding arrive_step
    stops a =
        pick_keeps_by (λ (s : Visit Reader Arrived). s ≡ stop a → Arrives st a) (passed_end rd.end rd.index) _ _
        (λ t. on_result_keeps (λ (s : Visit Reader Arrived). s ≡ stop a → Arrives st a) (enter_of vol m st rd (k + 1) 0) _ _
        (λ x o q.
        let z : ◌≡◌ {A = Arrived} (record { reader = rd; more = Err x }) a = cc in
        subst (Arrives st) z record { reads = p.reads; below = λ y. absurd (let z : ◌≡◌ {A = ℕ} 0 1 = cc in omega arith) })
        (λ r o q. absurd (let z : ◌≡◌ {A = ℕ} 0 1 = cc in omega arith)))
        (λ t q.
        let z : ◌≡◌ {A = Arrived} (record { reader = rd; more = Ok (not (eqb rd.index st.head.chunk)) }) a = cc in
        subst (Arrives st) z (here rd p.reads t))

  pub arrive_reads : (rd : Reader) → Reads rd st → Arrives st (arrive_of vol m st rd)
  unfolding arrive_of
  arrive_reads rd r =
      walk_keeps (arrive_step vol m st) _ rd.chunks (λ k t. On k t rd.chunks) (Arrives st)
      (λ k t u h p. goes rd.chunks k t h p u) (λ k t a h p. stops rd.chunks k t h p a)
      (λ t p. record { reads = p.reads; below = λ y. absurd (let z : ◌≡◌ {A = ℕ} 0 1 = cc in omega arith) })
      rd.position rd r.position (record { reads = r; at = refl; all = refl })
