-- What holds inside a call on an open appender, whatever happened so far: the steps that were made stand in the book, and an accepted part leaves the
-- appender at the end of its file. One rule then serves one part after the other. Assumes nothing.
use Rattle.std.specs.Prelude.{Err, Ok, Result}
use Prim.Native.Nat.{ℕ}
use mathlib.Core.Path.{◌≡◌, refl, sym, ap, ◌∙◌, subst}
use mathlib.Core.Option.{some}
use mathlib.Core.List.{List}
use Rattle.medium.specs.declared.Error.{Error}
use Rattle.medium.specs.declared.Medium.{Medium}
use Rattle.medium.specs.Sector.{Readable}
use Rattle.handles.specs.declared.Store.{Store}
use Rattle.handles.specs.Handles.{opened_by}
use Rattle.plan.specs.Copy.{Step, Distinct}
use Rattle.append.specs.declared.Appender.{Appender}
use Rattle.append.specs.Flush.{AppOut, stopped, done, after, and_then}
use Rattle.append.proofs.Then.{Next, then_done, then_no}
use Rattle.safe.proofs.Frame.{clash}
use Rattle.layout.specs.Segments.{Segment}
use Rattle.power.specs.Book.{Terms}
use Rattle.power.specs.History.{EachStep}
use Rattle.power.proofs.Fine.{Fine, entered_all}
use Rattle.power.proofs.Whole.{Whole, Stands}
use Rattle.power.proofs.Steps.{kinds_of, entered_append, each_append}
use Rattle.power.proofs.Unmade.{Unmade, unmade_readable}

-- the book after the steps made
abbrev pub book_after : Terms → List Step → Fine → Fine
book_after t steps b = entered_all t (kinds_of steps) b

-- ---- the state

-- the store's writer is the appender, whose id is spared; the directory that a file goes from is its rollover's, as the book has it
pub record Live (t : Terms) (vol : List ℕ) (m : Medium) (st : Store) (a : Appender) (G : ℕ → List Segment) (b : Fine) : Type 0 where
  pub whole : Whole vol st G b
  pub readable : Readable vol m
  pub writer : st.writer ≡ opened_by a.token a.id
  pub spared : t.spared ≡ some a.id
  pub dir : t.dir ≡ b.rollover

-- a refused commit leaves it
pub unmade_live : {t : Terms} {vol v : List ℕ} {m u : Medium} {st su : Store} {a : Appender} {G : ℕ → List Segment} {b : Fine} → Live t vol m st a G b → Unmade vol m st G b v u su
    → Live t v u su a G b
unmade_live l n =
    record { whole = n.whole; readable = unmade_readable n l.readable; writer = ap (λ (x : Store). x.writer) n.store ∙ l.writer; spared = l.spared; dir = l.dir }

-- of what a part of the call gives, from the book b, with `rest` still to come
pub record Kept (t : Terms) (b : Fine) (rest : List ℕ) (o : AppOut) : Type 0 where
  pub layout : ℕ → List Segment
  pub live : Live t o.vol o.ans.medium o.ans.store o.ans.appender layout (book_after t o.steps b)
  pub stands : o.ans.outcome ≡ Ok tt → Stands o.vol o.ans.store o.ans.appender layout (book_after t o.steps b) rest

-- under the premise on its steps
abbrev pub KeptIf : Terms → Fine → List ℕ → AppOut → Type 0
KeptIf t b rest o = EachStep Distinct o.steps → Kept t b rest o

-- refused, or done, with no step
pub kept_stopped : {t : Terms} {b : Fine} {rest vol : List ℕ} {m : Medium} {st : Store} {a : Appender} {G : ℕ → List Segment} (e : Error)
    → Live t vol m st a G b → Kept t b rest (stopped vol m st a e)
unfolding entered_all
kept_stopped {G = G} e l = record { layout = G; live = l; stands = λ d. clash refl d }

pub kept_done : {t : Terms} {b : Fine} {rest vol : List ℕ} {m : Medium} {st : Store} {a : Appender} {G : ℕ → List Segment}
    → Live t vol m st a G b → Stands vol st a G b rest → Kept t b rest (done vol m st a)
unfolding entered_all
kept_done {G = G} l s = record { layout = G; live = l; stands = λ _. s }

-- ---- composition

pub kept_after : {t : Terms} {b : Fine} {rest : List ℕ} (steps : List Step) (o : AppOut) → Kept t (book_after t steps b) rest o → Kept t b rest (after steps o)
kept_after {t} {b} steps o k =
    record { layout = k.layout; live = rw (entered_append t steps o.steps b) k.live; stands = rw (entered_append t steps o.steps b) k.stands }

-- what goes on from a part that was done
abbrev pub GoesOn : Terms → Fine → List ℕ → List ℕ → AppOut → Next → Type 0
GoesOn t b mid rest o next =
    (G : ℕ → List Segment)
    → Live t o.vol o.ans.medium o.ans.store o.ans.appender G (book_after t o.steps b)
    → Stands o.vol o.ans.store o.ans.appender G (book_after t o.steps b) mid
    → EachStep Distinct (next o.vol o.ans.medium o.ans.store o.ans.appender).steps
    → Kept t (book_after t o.steps b) rest (next o.vol o.ans.medium o.ans.store o.ans.appender)

module _ {t : Terms} {b : Fine} {mid rest : List ℕ} (o : AppOut) (next : Next) where
  ended : {e : Error} → o.ans.outcome ≡ Err e → Kept t b mid o → Kept t b rest (and_then o next)
  ended q k = subst (Kept t b rest) (sym (then_no o next q)) (record { layout = k.layout; live = k.live; stands = λ d. clash q d })

  went_on : o.ans.outcome ≡ Ok tt → Kept t b mid o → GoesOn t b mid rest o next
      → EachStep Distinct (next o.vol o.ans.medium o.ans.store o.ans.appender).steps → Kept t b rest (and_then o next)
  went_on q k on each =
      let x : AppOut = next o.vol o.ans.medium o.ans.store o.ans.appender in
      subst (Kept t b rest) (sym (then_done o next q)) (kept_after o.steps x (on k.layout k.live (k.stands q) each))

  pub kept_then : KeptIf t b mid o → (o.ans.outcome ≡ Ok tt → GoesOn t b mid rest o next) → KeptIf t b rest (and_then o next)
  kept_then first on each = go o.ans.outcome refl
    where
      go : (r : Result Unit Error) → o.ans.outcome ≡ r → Kept t b rest (and_then o next)
      go (Err e) q = ended q (first (subst (λ (x : AppOut). EachStep Distinct x.steps) (then_no o next q) each))
      go (Ok tt) q =
          let x : AppOut = next o.vol o.ans.medium o.ans.store o.ans.appender in
          let p = each_append Distinct o.steps x.steps (subst (λ (y : AppOut). EachStep Distinct y.steps) (then_done o next q) each) in
          went_on q (first p.0) (on q) p.1
