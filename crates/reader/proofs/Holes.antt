-- A hole: no record from its first to before its end is valid, and at its end stands a valid one of the chunk or, if the chunk is not the last, the
-- chunk ends there. The end met in a chunk: it is the last, and no record from there on is valid. Assumes nothing.
use Rattle.std.specs.Prelude.{Some, None, Result, Ok, Err}
use Rattle.medium.specs.declared.Error.{Error}
use mathlib.Core.Path.{◌≡◌, refl, sym, ap, ◌∙◌, subst}
use mathlib.Core.Bool.{Bool, true, false, ◌&&◌, false≢true}
use mathlib.Core.List.{List}
use Prim.Native.Nat.{ℕ, ◌+◌, ◌≤◌, ◌<◌}
use native.Mathlib.Omega.{arith}
use borrow.Author.Tests.{eqb-true, eqb-false}
use lib.Dec.{eqb}
use Rattle.le.proofs.Choices.{pick_keeps_by}
use Rattle.le.proofs.Bools.{and_true}
use Rattle.medium.specs.declared.Medium.{Medium}
use Rattle.handles.specs.declared.Store.{Store}
use Rattle.record.specs.Record.{number_at}
use Rattle.record.proofs.Laws.{on_judged_keeps, on_result_keeps}
use Rattle.reader.specs.declared.Reader.{Reader}
use Rattle.reader.specs.declared.Arrived.{Arrived}
use Rattle.reader.specs.declared.Found.{Found}
use Rattle.reader.specs.declared.Found.TheVariants as found
use Rattle.reader.specs.declared.Taken.{Taken}
use Rattle.reader.specs.Next.{is_last, limit_of, arrive_of, record_here, search_of, hole_of, NextOut, take_of, next_of}
use Rattle.reader.proofs.Facts.{Reads}
use Rattle.reader.proofs.Moves.{arrive_reads}
use Rattle.reader.proofs.Finds.{Search, search_range}

module _ (vol : List ℕ) (m : Medium) (st : Store) (rd : Reader) where
  abbrev limit : ℕ
  limit = limit_of rd.end st.head.chunk

  -- no record of the reader's chunk from its index to before `to` is valid
  abbrev pub Invalid : ℕ → Type 0
  Invalid to = (j : ℕ) → rd.index ≤ j → j < to → record_here vol m st rd j ≡ Ok None

  pub record HoleIs (a b : ℕ) : Type 0 where
    pub to : ℕ
    pub first : a ≡ number_at rd.position st.head.chunk rd.index
    pub past : b ≡ number_at rd.position st.head.chunk to
    pub most : to ≤ limit
    pub invalid : Invalid to
    pub valid : to < limit → (n : ℕ) × (record_here vol m st rd to ≡ Ok (Some n))
    pub last : is_last rd.end ≡ true → to < limit

  -- what an answer tells, where there is more of the chunk or not
  abbrev pub Tells : Result Bool Error → Result Found Error → Type 0
  Tells more (Err e) = Unit {0}
  Tells more (Ok (found.Payload n)) = Unit {0}
  Tells more (Ok (found.Hole a b)) = HoleIs a b
  Tells more (Ok found.End) = more ≡ Ok true → (is_last rd.end ≡ true) × (Invalid limit)

  module _ (more : Result Bool Error) (inside : rd.index < limit) where
    -- the search begins one further
    from_here : record_here vol m st rd rd.index ≡ Ok None → {to : ℕ} → Search vol m st rd (rd.index + 1) limit to → Invalid to
    from_here other s j a b = go (eqb j rd.index) refl
      where
        go : (t : Bool) → eqb j rd.index ≡ t → record_here vol m st rd j ≡ Ok None
        go true q = ap (record_here vol m st rd) (eqb-true j rd.index q) ∙ other
        go false q = let n : j ≡ rd.index → ⊥ = eqb-false j rd.index q in s.passed.before j (omega arith) b

    hole_tells : record_here vol m st rd rd.index ≡ Ok None → Tells more (hole_of vol m st rd).next
    unfolding hole_of
    hole_tells other =
        on_result_keeps (λ (t : Taken). Tells more t.next) (search_of vol m st rd (rd.index + 1) limit) _ _ (λ e _. tt)
        (λ to q.
        let s : Search vol m st rd (rd.index + 1) limit to = search_range vol m st rd (rd.index + 1) limit (omega arith) q in
        let most : to ≤ limit = s.most in
        let last : (is_last rd.end && eqb to limit) ≡ false → is_last rd.end ≡ true → to < limit = λ t l.
        let n : to ≡ limit → ⊥ = eqb-false to limit (rw l at t) in omega arith in
        pick_keeps_by (λ (t : Taken). Tells more t.next) (is_last rd.end && eqb to limit) _ _
        (λ t _. let e = and_true (is_last rd.end) (eqb to limit) t in (e.0, subst Invalid (eqb-true to limit e.1) (from_here other s)))
        (λ t. record { to = to; first = refl; past = refl; most = most; invalid = from_here other s; valid = s.there; last = last t }))

    pub take_tells : (out : List ℕ) → Tells more (take_of vol m st rd out).ans.next
    unfolding take_of
    take_tells out =
        on_judged_keeps (λ (o : NextOut). Tells more o.ans.next) (record_here vol m st rd rd.index) _ _ _ (λ e. tt) (λ n q. tt) hole_tells

-- the reader arrives first
module _ (vol : List ℕ) (m : Medium) (st : Store) (rd : Reader) (out : List ℕ) (reads : Reads rd st) where
  abbrev came : Arrived
  came = arrive_of vol m st rd

  abbrev Told : NextOut → Type 0
  Told o = Tells vol m st came.reader came.more o.ans.next

  next_tells : Told (next_of vol m st rd out)
  unfolding next_of
  next_tells =
      on_result_keeps Told came.more _ _ (λ e _. tt)
      (λ more o. pick_keeps_by Told more _ _
      (λ t. take_tells vol m st came.reader came.more ((arrive_reads vol m st rd reads).below (o ∙ ap Ok t)) out)
      (λ f t. let z : more ≡ true = cc in absurd (false≢true (sym f ∙ z))))

  pub next_hole : {a b : ℕ} → (next_of vol m st rd out).ans.next ≡ Ok (found.Hole a b) → HoleIs vol m st came.reader a b
  next_hole e = subst (Tells vol m st came.reader came.more) e next_tells

  pub next_last : (next_of vol m st rd out).ans.next ≡ Ok found.End → came.more ≡ Ok true
      → (is_last came.reader.end ≡ true) × (Invalid vol m st came.reader (limit vol m st came.reader))
  next_last e = subst (Tells vol m st came.reader came.more) e next_tells
