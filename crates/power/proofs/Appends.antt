-- Append and sync keep what holds between the calls: the bytes go one by one, and a record that fills is written. Assumes nothing.
use Rattle.std.specs.Prelude.{None, Option, Some}
use Rattle.std.specs.Prelude.{Err, Ok, Result}
use Prim.Native.Nat.{ℕ, ◌+◌, ◌<◌}
use mathlib.Core.Path.{◌≡◌, refl, sym, ap, ap₂, ◌∙◌, subst}
use mathlib.Core.Bool.{Bool, true, false, not, ◌&&◌, true≢false, false≢true}
use mathlib.Core.List.{List, [], ◌∷◌, ◌++◌, append_assoc, append-nil}
use native.Mathlib.Numerals.{add-one}
use native.Mathlib.Omega.{arith}
use borrow.Author.Tests.{eqb-true, eqb-false, eq-eqb, not-true}
use lib.Dec.{eqb}
use lib.ListN.{length, set, take, length-set}
use lib.Seq.{take-suc-set}
use Rattle.le.specs.Part.{part}
use Rattle.le.proofs.Choices.{pick_keeps, pick_keeps_by, pick_true, pick_false}
use Rattle.le.proofs.Bools.{and_true}
use Rattle.medium.specs.declared.Error.{Error}
use Rattle.medium.specs.declared.Medium.{Medium}
use Rattle.medium.specs.Sector.{sectors_of}
use Rattle.medium.proofs.Laws.{on_done_keeps}
use Rattle.handles.specs.declared.Store.{Store}
use Rattle.handles.specs.declared.Writer.{Writer}
use Rattle.handles.specs.Handles.{store_ok, opened_by}
use Rattle.plan.specs.Copy.{Distinct}
use Rattle.remove.proofs.Keeps.{Good}
use Rattle.append.specs.declared.Appender.{Appender}
use Rattle.append.specs.Appender.{is_closed, appender_ok, writes, live, Fit}
use Rattle.append.specs.Flush.{AppOut, and_then, pushed, put_byte, append_of, sync_of}
use Rattle.append.specs.Calls.{may_write, AppCall, offered, append_call, sync_call}
use Rattle.append.proofs.Then.{Next}
use Rattle.append.proofs.Runs.{byte_puts, append_puts, sync_puts}
use Rattle.safe.proofs.Frame.{clash}
use Rattle.layout.specs.Segments.{Segment}
use Rattle.power.specs.Calls.{append, sync}
use Rattle.power.specs.Book as book
use Rattle.power.specs.Book.{Terms, terms_of}
use Rattle.power.specs.History.{World, ran_append, ran, fed_by, open_of, with_left, EachStep}
use Rattle.power.proofs.Fine.{Fine, entered_all, before_steps, after_steps, written}
use Rattle.power.proofs.Whole.{Whole, Stands, Writes, Owns, Keeps}
use Rattle.power.proofs.Standing.{stands_passes, stands_fits}
use Rattle.power.proofs.Flows.{book_after, Live, Kept, KeptIf, kept_done, kept_then}
use Rattle.power.proofs.Recording.{ready_full, ready_all}
use Rattle.power.proofs.Flushing.{flush_kept, flush_closes}

-- ---- a byte

-- it is the first of those to come
pushed_bytes : (fill x : ℕ) (buffer rest : List ℕ) → fill < length buffer → part 0 (fill + 1) (set buffer fill x) ++ rest ≡ part 0 fill buffer ++ (x ∷ rest)
unfolding part
pushed_bytes fill x buffer rest h =
    rw (add-one fill, take-suc-set buffer fill x h) (append_assoc (take fill buffer) (x ∷ []) rest)

module _ {t : Terms} {vol : List ℕ} {m : Medium} {st : Store} {a : Appender} {G : ℕ → List Segment} {b : Fine} (l : Live t vol m st a G b) (h : a.fill < 486) (x : ℕ) where
  pushed_live : Live t vol m st (pushed x a) G b
  pushed_live = record { whole = l.whole; readable = l.readable; writer = l.writer; spared = l.spared; dir = l.dir }

  module _ {rest : List ℕ} (s : Stands vol st a G b (x ∷ rest)) where
    pushed_stands : Stands vol st (pushed x a) G b rest
    pushed_stands =
        record {
          name = s.name;
          below = s.below;
          entry = s.entry;
          last = s.last;
          chunk = s.chunk;
          tail = s.tail;
          buffer = length-set a.buffer a.fill x ∙ s.buffer;
          file = s.file;
          rollover = s.rollover;
          fine = s.fine;
          unwritten = s.unwritten ∙ sym (pushed_bytes a.fill x a.buffer rest (omega (arith, s.buffer, h)));
        }

    byte_kept : KeptIf t b rest (put_byte x vol m st a)
    unfolding put_byte
    byte_kept =
        pick_keeps_by (KeptIf t b rest) (eqb (a.fill + 1) 486) _ _
        (λ e. flush_kept pushed_live pushed_stands (ready_full (pushed x a) rest pushed_stands.buffer (eqb-true _ _ e)))
        (λ e _. kept_done pushed_live pushed_stands)

good_of : {vol : List ℕ} {st : Store} {G : ℕ → List Segment} {b : Fine} → Whole vol st G b → Good vol st
good_of w = record { ok = w.inv.ok; count = w.inv.range.count }

-- ---- the bytes

append_kept : (bytes : List ℕ) {t : Terms} {vol : List ℕ} {m : Medium} {st : Store} {a : Appender} {G : ℕ → List Segment} {b : Fine}
    → Live t vol m st a G b → Stands vol st a G b bytes → a.fill < 486 → KeptIf t b [] (append_of bytes vol m st a)
unfolding append_of
append_kept [] l s h = λ _. kept_done l s
append_kept (x ∷ xs) {vol = vol} {m = m} {st = st} {a = a} l s h =
    kept_then (put_byte x vol m st a) (append_of xs) (byte_kept l h x s)
    (λ d H k p. append_kept xs k p ((byte_puts vol m st a (good_of l.whole) (stands_fits l.whole s (omega arith)) h x).room d))

-- refused, the appender is closed
abbrev Closes : AppOut → Type 0
Closes o = (e : Error) → o.ans.outcome ≡ Err e → is_closed o.ans.appender.tail ≡ true

byte_closes : (x : ℕ) (vol : List ℕ) (m : Medium) (st : Store) (a : Appender) → Closes (put_byte x vol m st a)
unfolding put_byte
byte_closes x vol m st a = pick_keeps Closes (eqb (a.fill + 1) 486) _ _ (flush_closes vol m st (pushed x a)) (λ e q. clash q refl)

then_closes : (o : AppOut) (next : Next) → Closes o → Closes (next o.vol o.ans.medium o.ans.store o.ans.appender) → Closes (and_then o next)
unfolding and_then
then_closes o next p q = on_done_keeps Closes o.ans.outcome _ _ (λ _. q) (λ _ _. p)

append_closes : (bytes vol : List ℕ) (m : Medium) (st : Store) (a : Appender) → Closes (append_of bytes vol m st a)
unfolding append_of
append_closes [] vol m st a = λ e q. clash q refl
append_closes (x ∷ xs) vol m st a =
    let o : AppOut = put_byte x vol m st a in
    then_closes o (append_of xs) (byte_closes x vol m st a) (append_closes xs o.vol o.ans.medium o.ans.store o.ans.appender)

-- ---- sync: all that there is

sync_kept : {t : Terms} {vol : List ℕ} {m : Medium} {st : Store} {a : Appender} {G : ℕ → List Segment} {b : Fine}
    → Live t vol m st a G b → Stands vol st a G b [] → a.fill < 486 → KeptIf t b [] (sync_of vol m st a)
unfolding sync_of
sync_kept {t = t} {a = a} {b = b} l s h =
    pick_keeps_by (KeptIf t b []) (eqb a.fill 0) _ _ (λ _ _. kept_done l s)
    (λ e. let z : a.fill ≡ 0 → ⊥ = eqb-false _ _ e in flush_kept l s (ready_all a s.buffer (omega (arith, z)) (omega arith)))

sync_closes : (vol : List ℕ) (m : Medium) (st : Store) (a : Appender) → Closes (sync_of vol m st a)
unfolding sync_of
sync_closes vol m st a = pick_keeps Closes (eqb a.fill 0) _ _ (λ e q. clash q refl) (flush_closes vol m st a)

-- ---- from what is kept inside a call to what holds between the calls

abbrev world_of : AppOut → World
world_of o = record { vol = o.vol; store = o.ans.store; appender = o.ans.appender; medium = o.ans.medium }

kept_owns : {t : Terms} {b : Fine} (o : AppOut) (k : Kept t b [] o) → (o.ans.outcome ≡ Ok tt → o.ans.appender.fill < 486) → Closes o
    → is_closed o.ans.appender.tail ≡ false
    → Stands o.vol o.ans.store o.ans.appender k.layout (book_after t o.steps b) [] × (o.ans.appender.fill < 486)
kept_owns {t} {b} o k room closes c = go o.ans.outcome refl
  where
    go : (r : Result Unit Error) → o.ans.outcome ≡ r
        → Stands o.vol o.ans.store o.ans.appender k.layout (book_after t o.steps b) [] × (o.ans.appender.fill < 486)
    go (Ok tt) q = (k.stands q, room q)
    go (Err e) q = absurd (true≢false (sym (closes e q) ∙ c))

kept_keeps : {t : Terms} {b : Fine} (o : AppOut) → Kept t b [] o → (o.ans.outcome ≡ Ok tt → o.ans.appender.fill < 486) → Closes o → Keeps (world_of o) (book_after t o.steps b)
kept_keeps {t} {b} o k room closes =
    record {
      layout = k.layout;
      whole = k.live.whole;
      owns = record {
        writes =
            subst (λ (x : Option Writer). Writes x o.ans.appender (Stands o.vol o.ans.store o.ans.appender k.layout (book_after t o.steps b) [] × (o.ans.appender.fill < 486)))
            (sym k.live.writer) (refl, refl, kept_owns o k room closes);
      };
      readable = k.live.readable;
    }

-- ---- refusals 3 and 11

pub may_live : (vol : List ℕ) (st : Store) (a : Appender) → may_write vol st a ≡ Ok tt → live st a ≡ true
unfolding may_write
may_live vol st a d = go (store_ok st (sectors_of vol) && appender_ok a st) refl (live st a) refl
  where
    go : (x : Bool) → (store_ok st (sectors_of vol) && appender_ok a st) ≡ x → (y : Bool) → live st a ≡ y → y ≡ true
    go false q y r = clash (pick_false _ _ q) d
    go true q true r = refl
    go true q false r = clash (pick_true _ _ q ∙ pick_false _ _ r) d

-- the writer is this appender, which stands
its_own : (x : Option Writer) (a : Appender) {P : Type 0} → Writes x a P → (writes x a.token && not (is_closed a.tail)) ≡ true → (x ≡ opened_by a.token a.id) × P
unfolding writes
its_own None a w e = absurd (false≢true e)
its_own (Some x) a w e =
    let b = and_true (eqb x.token a.token) (not (is_closed a.tail)) e in
    (ap₂ opened_by w.0 w.1, w.2 (not-true (is_closed a.tail) b.1))

module _ {vol : List ℕ} {st : Store} {a : Appender} {G : ℕ → List Segment} {b : Fine} (w : Whole vol st G b) where
  -- an appender that stands is never refused
  pub stands_may : {rest : List ℕ} → Stands vol st a G b rest → a.fill < 486 → (x : Option Writer) → st.writer ≡ x → writes x a.token ≡ true → is_closed a.tail ≡ false → may_write vol st a ≡ Ok tt
  unfolding may_write live
  stands_may s h x q y c =
      let p : (store_ok st (sectors_of vol) && appender_ok a st) ≡ true = rw w.inv.ok (stands_passes w s h) in
      let r : (writes st.writer a.token && not (is_closed a.tail)) ≡ true = rw (q, y, c) refl in
      pick_true _ _ p ∙ pick_true _ _ r

  -- so whatever a refused call counts of it does not matter
  refused_owns : {e : Error} {c : Fine} → may_write vol st a ≡ Err e → Owns vol st a G b → Owns vol st a G c
  unfolding writes
  refused_owns {e} {c} n o = record { writes = go st.writer refl o.writes }
    where
      go : (x : Option Writer) → st.writer ≡ x → Writes x a (Stands vol st a G b [] × (a.fill < 486)) → Writes x a (Stands vol st a G c [] × (a.fill < 486))
      go None q h = tt
      go (Some x) q h = (
        h.0,
        h.1,
        λ z. let p = h.2 z in clash n (stands_may p.0 p.1 (Some x) q (eq-eqb x.token a.token h.0) z),
      )

-- ---- the calls

-- c is b with more bytes to come
record More (b c : Fine) (rest : List ℕ) : Type 0 where
  pub next : c.next ≡ b.next
  pub files : c.files ≡ b.files
  pub file : c.file ≡ b.file
  pub rollover : c.rollover ≡ b.rollover
  pub unwritten : c.unwritten ≡ b.unwritten ++ rest
  pub parts : c.parts ≡ b.parts
  pub ids : c.ids ≡ b.ids
  pub size : c.size ≡ b.size

module _ (w : World) (b : Fine) (k : Keeps w b) (left : ℕ) (c : Fine) (rest : List ℕ) (more : More b c rest) where
  abbrev m : Medium
  m = with_left left w.medium

  abbrev terms : Terms
  terms = record { name = []; dir = b.rollover; spared = open_of w.store.writer }

  whole_more : Whole w.vol w.store k.layout c
  whole_more =
      record {
        inv = k.whole.inv;
        map = k.whole.map;
        good = k.whole.good;
        ties = rw more.files k.whole.ties;
        parts = rw more.parts k.whole.parts;
        next = more.next ∙ k.whole.next;
        ids = more.ids ∙ k.whole.ids;
        size = more.size ∙ k.whole.size;
      }

  module _ (d : may_write w.vol w.store w.appender ≡ Ok tt) where
    owner : (w.store.writer ≡ opened_by w.appender.token w.appender.id) × (Stands w.vol w.store w.appender k.layout b [] × (w.appender.fill < 486))
    unfolding live
    owner = its_own w.store.writer w.appender k.owns.writes (may_live w.vol w.store w.appender d)

    room : w.appender.fill < 486
    room = owner.1.1

    fits : Fit w.appender w.store
    fits = stands_fits k.whole owner.1.0 (omega (arith, room))

    start_live : Live terms w.vol m w.store w.appender k.layout c
    start_live = record { whole = whole_more; readable = k.readable; writer = owner.0; spared = ap open_of owner.0; dir = sym more.rollover }

    start_stands : Stands w.vol w.store w.appender k.layout c rest
    start_stands =
        let s : Stands w.vol w.store w.appender k.layout b [] = owner.1.0 in
        let x : List ℕ = part 0 w.appender.fill w.appender.buffer in
        record {
          name = s.name;
          below = s.below;
          entry = s.entry;
          last = s.last;
          chunk = s.chunk;
          tail = s.tail;
          buffer = s.buffer;
          file = more.file ∙ s.file;
          rollover = more.rollover ∙ s.rollover;
          fine = s.fine;
          unwritten = more.unwritten ∙ ap (λ (y : List ℕ). y ++ rest) (s.unwritten ∙ append-nil x);
        }

  abbrev Stood : AppCall → Type 0
  Stood y = EachStep Distinct y.steps → Keeps (ran_append y).world (book_after terms y.steps c)

  -- the work, or nothing
  offered_stood : (o : AppOut) → (may_write w.vol w.store w.appender ≡ Ok tt → EachStep Distinct o.steps → Keeps (world_of o) (book_after terms o.steps c))
      → Stood (offered w.vol m w.store w.appender o)
  unfolding offered entered_all
  offered_stood o f =
      on_done_keeps Stood (may_write w.vol w.store w.appender) _ _ f
      (λ e q _. record { layout = k.layout; whole = whole_more; owns = refused_owns k.whole q k.owns; readable = k.readable })

  append_stood : Stood (append_call w.vol m w.store w.appender rest)
  unfolding append_call
  append_stood =
      let o : AppOut = append_of rest w.vol m w.store w.appender in
      offered_stood o
      (λ d each.
      kept_keeps o (append_kept rest (start_live d) (start_stands d) (room d) each)
      (append_puts rest w.vol m w.store w.appender (good_of k.whole) (fits d) (room d)).room
      (append_closes rest w.vol m w.store w.appender))

-- sync has no bytes to come
module _ (w : World) (b : Fine) (k : Keeps w b) (left : ℕ) where
  none : More b b []
  none = record { next = refl; files = refl; file = refl; rollover = refl; unwritten = sym (append-nil b.unwritten); parts = refl; ids = refl; size = refl }

  sync_stood : Stood w b k left b [] none (sync_call w.vol (with_left left w.medium) w.store w.appender)
  unfolding sync_call
  sync_stood =
      let m : Medium = with_left left w.medium in
      let o : AppOut = sync_of w.vol m w.store w.appender in
      offered_stood w b k left b [] none o
      (λ d each.
      kept_keeps o (sync_kept (start_live w b k left b [] none d) (start_stands w b k left b [] none d) (room w b k left b [] none d) each)
      (sync_puts w.vol m w.store w.appender (good_of k.whole) (fits w b k left b [] none d) (room w b k left b [] none d)).room
      (sync_closes w.vol m w.store w.appender))

pub append_keeps : (w : World) (b : Fine) → Keeps w b → (left : ℕ) (bytes : List ℕ) → EachStep Distinct (ran w (append left bytes)).steps
    → Keeps (ran w (append left bytes)).world (written (append left bytes) (fed_by w (append left bytes)) b)
unfolding ran written fed_by terms_of before_steps book.before_steps after_steps book.after_steps
append_keeps w b k left bytes h =
    let more : More b (before_steps (append left bytes) b) bytes = record { next = refl; files = refl; file = refl; rollover = refl; unwritten = refl; parts = refl; ids = refl; size = refl } in
    let p = append_stood w b k left (before_steps (append left bytes) b) bytes more h in
    pick_keeps (Keeps (ran w (append left bytes)).world) _ _ _ p p

pub sync_keeps : (w : World) (b : Fine) → Keeps w b → (left : ℕ) → EachStep Distinct (ran w (sync left)).steps
    → Keeps (ran w (sync left)).world (written (sync left) (fed_by w (sync left)) b)
unfolding ran written fed_by terms_of before_steps book.before_steps after_steps book.after_steps
sync_keeps w b k left h = pick_keeps (Keeps (ran w (sync left)).world) _ _ _ (sync_stood w b k left h) (sync_stood w b k left h)
