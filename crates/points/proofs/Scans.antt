-- The walks over `MARKS` and over a file, by the ways that they go: a law for each return, over plain values. Assumes nothing.
use Rattle.std.specs.Prelude.{Err, Ok, Result, Some, None}
use Prim.Native.Nat.{ℕ, ◌+◌, ◌≤◌, ◌<◌}
use mathlib.Core.Path.{◌≡◌, refl, sym, ap, ◌∙◌}
use mathlib.Core.Bool.{true, false}
use mathlib.Core.List.{List}
use native.Mathlib.Omega.{arith}
use lib.Dec.{ltb, eqb}
use lib.ListN.{length, take}
use Rattle.le.specs.Choice.{pick}
use Rattle.le.specs.Part.{zeros}
use Rattle.le.proofs.Choices.{pick_keeps_by}
use Rattle.le.proofs.Parts.{length_zeros}
use Rattle.walk.specs.Walk.{stop, rest}
use Rattle.walk.proofs.Laws.{rest_next, rest_stop, rest_end}
use Rattle.marks.specs.declared.Mark.{Mark}
use Rattle.std.specs.Prelude.{Option, Some, None}
use Rattle.marks.specs.Line.{marks_name, says_of}
use Rattle.medium.specs.declared.Error.{Error}
use Rattle.medium.specs.declared.Error.TheVariants.{NotFound}
use Rattle.medium.specs.declared.Error.TheVariants as no
use Rattle.medium.specs.declared.Medium.{Medium}
use Rattle.medium.specs.Refusal.{Answer, ok, refused, number_of, on_ok}
use Rattle.medium.proofs.Laws.{on_done_keeps}
use Rattle.handles.specs.declared.Store.{Store}
use Rattle.reader.specs.declared.Next.TheVariants as item
use Rattle.reader.specs.declared.Read.{Read}
use Rattle.reader.specs.declared.Reader.{Reader}
use Rattle.reader.specs.Reader.{reader_ok}
use Rattle.reader.specs.Calls.{usable_of, Item, payload, next_answer, NextCall, read_answer, next_call, numbered_answer, record_call}
use Rattle.reader.proofs.Facts.{usable_facts}
use Rattle.reader.proofs.Offers.{next_offered}
use Rattle.store.specs.declared.ReaderAnswer.{ReaderAnswer}
use Rattle.store.specs.Reading.{reader_answer, reader_call}
use Rattle.points.specs.declared.Seen.{Seen}
use Rattle.points.specs.declared.Sight.{Sight}
use Rattle.points.specs.declared.Sight.TheVariants.{Passed, Line, End}
use Rattle.points.specs.declared.Turn.{Turn}
use Rattle.points.specs.Look.{after_mark, after_item, turn_of, turns, walk_of, absent, unset, line, place_of, look_of, end_of}
use Rattle.points.specs.Told.{sought_of, sight_of, sight_visit, visit_of, walked_answer}

-- ---- one turn

sight_mark : (k : Option Mark) (rd : Reader) → sight_visit (sight_of k) rd ≡ after_mark k rd
unfolding sight_of sight_visit after_mark
sight_mark None rd = refl
sight_mark (Some said) rd = refl

-- a reader that gave an answer passes, so what it gave is no longer than a record's payload
next_passes : (vol : List ℕ) (m : Medium) (st : Store) (rd : Reader) (out : List ℕ) {x : Item} → (next_call vol m st rd out).answer ≡ ok x → reader_ok rd st ≡ true
unfolding next_call
next_passes vol m st rd out {x} =
    pick_keeps_by (λ (c : NextCall). c.answer ≡ ok x → reader_ok rd st ≡ true) (ltb (length out) 486) _ _
    (λ t w. absurd (let z : ◌≡◌ {A = ℕ} 0 1 = cc in omega arith))
    (λ t. on_done_keeps (λ (c : NextCall). c.answer ≡ ok x → reader_ok rd st ≡ true) (usable_of vol st rd) _ _
    (λ q w. (usable_facts vol st rd refl q).1)
    (λ e q w. absurd (let z : ◌≡◌ {A = ℕ} 0 1 = cc in omega arith)))

pub next_size : (vol : List ℕ) (m : Medium) (st : Store) (rd : Reader) (r : Read) {out : List ℕ} {n : ℕ}
    → read_answer r out ≡ next_call vol m st rd (zeros 486) → r.next ≡ Ok (item.Payload n) → (n ≤ 486) × (length out ≡ 486)
next_size vol m st rd r {out} {n} e q =
    let a : (next_call vol m st rd (zeros 486)).answer ≡ ok (payload n) = ap (λ (c : NextCall). c.answer) (sym e) ∙ ap next_answer q in
    let o = next_offered vol m st rd (zeros 486) (next_passes vol m st rd (zeros 486) a) in
    ((o.size n a).1, ap (λ (c : NextCall). length c.out) e ∙ o.kept ∙ length_zeros 486)

module _ (says : List ℕ → Option Mark) (vol : List ℕ) (m : Medium) (st : Store) (rd : Reader) (r : Read) {out : List ℕ}
    (read : read_answer r out ≡ next_call vol m st rd (zeros 486)) where
  pub turn_refused : {e : Error} → r.next ≡ Err e → visit_of (Err e) ≡ turn_of says vol m st rd
  unfolding turn_of on_ok
  turn_refused q = rw (← read, q)

  pub turn_hole : {from to blank : ℕ} → r.next ≡ Ok (item.Hole from to blank) → visit_of (Ok (record { sight = Passed; reader = r.reader })) ≡ turn_of says vol m st rd
  unfolding sight_visit turn_of on_ok after_item
  turn_hole q = rw (← read, q)

  pub turn_end : r.next ≡ Ok item.End → visit_of (Ok (record { sight = End; reader = r.reader })) ≡ turn_of says vol m st rd
  unfolding sight_visit turn_of on_ok after_item
  turn_end q = rw (← read, q)

  pub turn_payload : {n : ℕ} {s : Sight} → r.next ≡ Ok (item.Payload n) → s ≡ sight_of (says (take n out))
      → visit_of (Ok (record { sight = s; reader = r.reader })) ≡ turn_of says vol m st rd
  unfolding turn_of on_ok after_item
  turn_payload {n} q h = rw (← read, q, h) (sight_mark (says (take n out)) r.reader)

-- ---- the walk: it has come to turn i with a reader, and what is left gives what the whole walk gives

pub record Walks (says : List ℕ → Option Mark) (vol : List ℕ) (m : Medium) (st : Store) (rd at : Reader) (i : ℕ) : Type 0 where
  pub most : i ≤ turns
  pub same : walk_of says vol m st rd ≡ rest (λ k. turn_of says vol m st) (λ r. ok (record { mark = None; reader = r })) turns i at

pub walk_start : (says : List ℕ → Option Mark) (vol : List ℕ) (m : Medium) (st : Store) (rd : Reader) → Walks says vol m st rd rd 0
unfolding walk_of
walk_start says vol m st rd = record { most = omega arith; same = refl }

module _ {says : List ℕ → Option Mark} {vol : List ℕ} {m : Medium} {st : Store} {rd at : Reader} {i : ℕ} (w : Walks says vol m st rd at i) where
  module _ (h : i < turns) {a : Answer Seen} where
    stopped : turn_of says vol m st at ≡ stop a → a ≡ walk_of says vol m st rd
    stopped v = sym (w.same ∙ rest_stop _ _ turns i at a h v)

  module _ (h : i < turns) (r : Result Turn Error) (turned : visit_of r ≡ turn_of says vol m st at) where
    pub walk_refused : {e : Error} → r ≡ Err e → refused (number_of e) ≡ walk_of says vol m st rd
    walk_refused q = stopped h (sym turned ∙ ap visit_of q)

    module _ {t : Turn} (done : r ≡ Ok t) where
      at_turn : {x : Sight} → t.sight ≡ x → turn_of says vol m st at ≡ sight_visit x t.reader
      at_turn q = sym turned ∙ ap visit_of done ∙ ap (λ (x : Sight). sight_visit x t.reader) q

      pub walk_next : t.sight ≡ Passed → Walks says vol m st rd t.reader (i + 1)
      unfolding sight_visit
      walk_next q = record { most = omega arith; same = w.same ∙ rest_next _ _ turns i at t.reader h (at_turn q) }

      pub walk_line : {id number : ℕ} → t.sight ≡ Line id number → ok (record { mark = Some (record { id = id; number = number }); reader = t.reader }) ≡ walk_of says vol m st rd
      unfolding sight_visit
      walk_line q = stopped h (at_turn q)

      pub walk_end : t.sight ≡ End → ok (record { mark = None; reader = t.reader }) ≡ walk_of says vol m st rd
      unfolding sight_visit
      walk_end q = stopped h (at_turn q)

  pub walk_over : turns ≤ i → ok (record { mark = None; reader = at }) ≡ walk_of says vol m st rd
  walk_over h = sym (w.same ∙ rest_end _ _ turns i at h)

-- ---- what `MARKS` says of a point

-- a refusal has the number of an absent file just where it is that
number_nine : (e : Error) → (e ≡ NotFound → ⊥) → eqb (number_of e) 9 ≡ false
number_nine no.Name f = refl
number_nine no.Range f = refl
number_nine no.Handle f = refl
number_nine no.Media f = refl
number_nine no.Uninitialized f = refl
number_nine no.Foreign f = refl
number_nine no.Corrupt f = refl
number_nine no.Exists f = refl
number_nine no.NotFound f = absurd (f refl)
number_nine no.Full f = refl
number_nine no.Stale f = refl
number_nine no.Spent f = refl
number_nine no.Point f = refl
number_nine no.Known f = refl
number_nine no.Lost f = refl
number_nine no.Dotted f = refl

module _ (vol : List ℕ) (m : Medium) (st : Store) (p : List ℕ) (r : ReaderAnswer) (opened : reader_answer r ≡ reader_call vol m st marks_name) where
  pub look_absent : r.outcome ≡ Err NotFound → ok absent ≡ look_of vol m st p
  unfolding look_of on_ok pick
  look_absent q = rw (← opened, q)

  pub look_refused : {e : Error} → r.outcome ≡ Err e → (e ≡ NotFound → ⊥) → refused (number_of e) ≡ look_of vol m st p
  unfolding look_of on_ok pick
  look_refused {e} q f = rw (← opened, q, number_nine e f)

  module _ (q : r.outcome ≡ Ok tt) (w : Result Seen Error) (walks : walked_answer w ≡ walk_of (sought_of (Some p)) vol m st r.reader) where
    walks_on : walked_answer w ≡ walk_of (says_of p) vol m st (reader_call vol m st marks_name).reader
    unfolding sought_of
    walks_on = rw (← opened) walks

    pub look_no : {e : Error} → w ≡ Err e → refused (number_of e) ≡ look_of vol m st p
    unfolding look_of on_ok
    look_no h = rw (← walks_on, ← opened, q, h)

    module _ {s : Seen} (h : w ≡ Ok s) where
      pub look_unset : s.mark ≡ None → ok unset ≡ look_of vol m st p
      unfolding look_of on_ok place_of
      look_unset k = rw (← walks_on, ← opened, q, h, k)

      pub look_line : {id number : ℕ} → s.mark ≡ Some (record { id = id; number = number }) → ok (line id number) ≡ look_of vol m st p
      unfolding look_of on_ok place_of
      look_line k = rw (← walks_on, ← opened, q, h, k)

-- ---- where a file ends

module _ (vol : List ℕ) (m : Medium) (st : Store) (name : List ℕ) (r : ReaderAnswer) (opened : reader_answer r ≡ reader_call vol m st name) where
  pub end_refused : {e : Error} → r.outcome ≡ Err e → refused (number_of e) ≡ end_of vol m st name
  unfolding end_of on_ok
  end_refused q = rw (← opened, q)

  module _ (q : r.outcome ≡ Ok tt) (w : Result Seen Error) (walks : walked_answer w ≡ walk_of (sought_of None) vol m st r.reader) where
    walks_past : walked_answer w ≡ walk_of (λ x. None) vol m st (reader_call vol m st name).reader
    unfolding sought_of
    walks_past = rw (← opened) walks

    pub end_no : {e : Error} → w ≡ Err e → refused (number_of e) ≡ end_of vol m st name
    unfolding end_of on_ok
    end_no h = rw (← walks_past, ← opened, q, h)

    module _ {s : Seen} (h : w ≡ Ok s) (n : Result ℕ Error) (counts : numbered_answer n ≡ record_call st s.reader) where
      pub end_past : {e : Error} → n ≡ Err e → refused (number_of e) ≡ end_of vol m st name
      unfolding end_of on_ok
      end_past k = rw (← walks_past, ← opened, q, h, ← counts, k)

      pub end_at_lem : {number : ℕ} → n ≡ Ok number → ok (s.reader.id, number) ≡ end_of vol m st name
      unfolding end_of on_ok
      end_at_lem k = rw (← walks_past, ← opened, q, h, ← counts, k)
