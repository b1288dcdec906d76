-- S-1: the steps of a sync with bytes to write, on an appender without rollover. Accepted, one record stands, behind a chunk more or not; refused, none.
-- So on 01's book the file of the lines gets exactly the line. Assumes nothing.
use Rattle.std.specs.Prelude.{Err, Ok, Result}
use Prim.Native.Nat.{ℕ}
use mathlib.Core.Path.{◌≡◌, refl, ap, sym, ◌∙◌}
use mathlib.Core.Logic.{◌≢◌, ◌⊎◌, inl, inr}
use mathlib.Core.Bool.{Bool, true, false, true≢false}
use mathlib.Core.List.{List, [], ◌∷◌, ◌++◌, map-append}
use borrow.Author.Tests.{ne_eqb}
use lib.Dec.{leb, ltb, eqb}
use lib.ListN.{take}
use Rattle.le.proofs.Choices.{pick_keeps, pick_keeps_by, pick_false}
use Rattle.medium.specs.declared.Error.{Error}
use Rattle.medium.specs.declared.Medium.{Medium}
use Rattle.medium.specs.Refusal.{on_done}
use Rattle.medium.proofs.Laws.{on_done_keeps}
use Rattle.handles.specs.declared.Store.{Store}
use Rattle.table.specs.Free.{free_of}
use Rattle.table.proofs.Decides.{on_pick_keeps}
use Rattle.plan.specs.Copy.{Kind, extended, recorded, Out, steps_of}
use Rattle.append.specs.declared.Appender.{Appender}
use Rattle.append.specs.Flush.{AppOut, and_then, link_out, extend_of, record_out, write_out, flush_of, sync_of}
use Rattle.append.proofs.Keeps.{on_tail_keeps}
use Rattle.append.proofs.Then.{then_done, then_no}
use Rattle.safe.proofs.Frame.{clash}
use Rattle.power.specs.Book.{File, Book, Terms, with_chunk, entered, entered_all}
use Rattle.power.proofs.Steps.{kinds_of}
use Rattle.power.proofs.Members.{Mem, on_mem}
use Rattle.power.proofs.Marks.{Holding, Quiet, holding_entered, holding_record}

-- what a part of the call makes, by its outcome
abbrev By : (List Kind → Type 0) → (List Kind → Type 0) → AppOut → Type 0
By P Q o = (o.ans.outcome ≡ Ok tt → P (kinds_of o.steps)) × ((e : Error) → o.ans.outcome ≡ Err e → Q (kinds_of o.steps))

abbrev Is : List Kind → List Kind → Type 0
Is ks x = x ≡ ks

abbrev pub OneRecord : List Kind → Type 0
OneRecord x = (x ≡ recorded ∷ []) ⊎ (x ≡ extended ∷ recorded ∷ [])

abbrev pub NoRecord : List Kind → Type 0
NoRecord x = (x ≡ []) ⊎ (x ≡ extended ∷ [])

record_by : (i : ℕ) (vol : List ℕ) (m : Medium) (st : Store) (a : Appender) → By (Is (recorded ∷ [])) (Is []) (record_out i vol m st a)
unfolding record_out
record_by i vol m st a = on_done_keeps (By (Is (recorded ∷ [])) (Is [])) _ _ _ (λ q. (λ _. refl, λ e d. clash d refl)) (λ e q. (λ d. clash refl d, λ _ _. refl))

made_by : (o : Out) → (o.ans.outcome ≡ Ok tt → kinds_of (steps_of extended o) ≡ extended ∷ []) × ((e : Error) → o.ans.outcome ≡ Err e → kinds_of (steps_of extended o) ≡ [])
unfolding steps_of on_done
made_by o = (λ d. rw d refl, λ e d. rw d refl)

link_by : (vol : List ℕ) (m : Medium) (st : Store) (a : Appender) (partial : Bool) (records c : ℕ) → By (Is (extended ∷ [])) (Is []) (link_out vol m st a partial records c)
unfolding link_out
link_by vol m st a partial records c = made_by _

module _ (vol : List ℕ) (m : Medium) (st : Store) (a : Appender) (rolls : a.rolls ≡ false) where
  extend_by : (partial : Bool) (records : ℕ) → By (Is (extended ∷ [])) (Is []) (extend_of vol m st a partial records)
  unfolding extend_of
  extend_by partial records =
      let P : AppOut → Type 0 = By (Is (extended ∷ [])) (Is []) in
      pick_keeps P (leb 32767 a.position) _ _ (λ d. clash refl d, λ _ _. refl)
      (on_pick_keeps P (free_of vol m st) _ _ _ (λ e. (λ d. clash refl d, λ _ _. refl))
      (pick_keeps_by P a.rolls _ _ (λ r. absurd (true≢false (sym r ∙ rolls))) (λ _. (λ d. clash refl d, λ _ _. refl)))
      (λ c q. link_by vol m st a partial records c))

  -- a chunk, then its first record
  next_by : (o : AppOut) → By (Is (extended ∷ [])) (Is []) o → By OneRecord NoRecord (and_then o (record_out 0))
  next_by o b = go o.ans.outcome refl
    where
      go : (r : Result Unit Error) → o.ans.outcome ≡ r → By OneRecord NoRecord (and_then o (record_out 0))
      go (Err e) q = rw (then_no o (record_out 0) q) (λ d. clash q d, λ x d. inl (b.1 x d))
      go (Ok tt) q =
          let x : AppOut = record_out 0 o.vol o.ans.medium o.ans.store o.ans.appender in
          let k : kinds_of (o.steps ++ x.steps) ≡ extended ∷ kinds_of x.steps = map-append _ o.steps x.steps ∙ ap (λ (y : List Kind). y ++ kinds_of x.steps) (b.0 q) in
          let y = record_by 0 o.vol o.ans.medium o.ans.store o.ans.appender in
          rw (then_done o (record_out 0) q) (λ d. inr (k ∙ ap (λ (z : List Kind). extended ∷ z) (y.0 d)), λ e d. inr (k ∙ ap (λ (z : List Kind). extended ∷ z) (y.1 e d)))

  write_by : By OneRecord NoRecord (write_out vol m st a)
  unfolding write_out
  write_by =
      let P : AppOut → Type 0 = By OneRecord NoRecord in
      on_tail_keeps P a.tail _ _ _
      (λ i q. pick_keeps P (ltb i st.head.chunk) _ _
      (let y = record_by i vol m st a in (λ d. inl (y.0 d), λ e d. inl (y.1 e d)))
      (next_by _ (extend_by false 0)))
      (λ n q. next_by _ (extend_by true n))
      (λ d. clash refl d, λ _ _. inl refl)

  flush_by : By OneRecord NoRecord (flush_of vol m st a)
  unfolding flush_of
  flush_by = on_done_keeps (By OneRecord NoRecord) (write_out vol m st a).ans.outcome _ _ (λ _. write_by) (λ e q. (λ d. clash refl d, λ x d. write_by.1 e q))

  pub sync_by : a.fill ≢ 0 → By OneRecord NoRecord (sync_of vol m st a)
  unfolding sync_of
  sync_by n = rw (pick_false _ _ (ne_eqb a.fill 0 n)) flush_by

-- ---- the book

module _ (name : List ℕ) (l : List (List ℕ)) (t : Terms) (b : Book) (h : Holding name l b.files) (own : (f : File) → Mem f b.files → f.name ≡ name → f.id ≡ b.file) where
  held_on : Holding name l (entered t extended b).files
  unfolding Quiet
  held_on = holding_entered name l t extended b h tt

  own_on : (f : File) → Mem f (entered t extended b).files → f.name ≡ name → f.id ≡ (entered t extended b).file
  unfolding entered
  own_on g m e =
      let o = on_mem b.file with_chunk g b.files m in
      let c = pick_keeps (λ (x : File). (x.name ≡ o.0.name) × (x.id ≡ o.0.id)) (eqb o.0.id b.file) (with_chunk o.0) o.0 (refl, refl) (refl, refl) in
      ap (λ (x : File). x.id) o.2 ∙ c.1 ∙ own o.0 o.1 (sym c.0 ∙ ap (λ (x : File). x.name) (sym o.2) ∙ e)

  -- accepted: the line behind the others
  pub line_there : (ks : List Kind) → OneRecord ks → Holding name (l ++ (take 486 b.unwritten ∷ [])) (entered_all t ks b).files
  unfolding entered_all entered
  line_there ks (inl e) = rw e (holding_record name l t b h own)
  line_there ks (inr e) = rw e (holding_record name l t (entered t extended b) held_on own_on)

  -- refused: none
  pub line_absent : (ks : List Kind) → NoRecord ks → Holding name l (entered_all t ks b).files
  unfolding entered_all
  line_absent ks (inl e) = rw e h
  line_absent ks (inr e) = rw e held_on
