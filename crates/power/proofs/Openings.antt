-- S-1: an appender opened on the file of a name without rollover, by an accepted create or open_append, and the line appended to it: it is the store's
-- writer, the file of the name is its file, and only the line is unwritten. Assumes nothing.
use Rattle.std.specs.Prelude.{Err, Ok, Result}
use Prim.Native.Nat.{ℕ, ◌+◌, ◌-◌, ◌<◌}
use mathlib.Core.Path.{◌≡◌, refl, ap, sym, subst, ◌∙◌}
use mathlib.Core.Logic.{◌⊎◌, inl, inr}
use mathlib.Core.Bool.{true, false, false≢true, true≢false}
use mathlib.Core.Option.{none}
use mathlib.Core.List.{List, [], ◌∷◌, ◌++◌}
use native.Mathlib.Nat.{zero-add}
use native.Mathlib.Omega.{arith}
use lib.Dec.{eqb}
use lib.ListN.{length}
use Rattle.le.specs.Choice.{pick}
use Rattle.le.proofs.Choices.{pick_keeps, pick_keeps_by}
use Rattle.medium.specs.declared.Error.{Error}
use Rattle.medium.specs.declared.Medium.{Medium}
use Rattle.medium.specs.Refusal.{outcome_of, on_done}
use Rattle.medium.proofs.Laws.{on_done_keeps}
use Rattle.handles.specs.declared.Store.{Store}
use Rattle.directory.proofs.Decides.{on_free_keeps, on_looked_keeps}
use Rattle.handles.specs.Handles.{opened_by}
use Rattle.table.specs.Free.{free_of}
use Rattle.table.proofs.Decides.{on_pick_keeps}
use Rattle.plan.specs.declared.Edit.TheVariants.{Create}
use Rattle.plan.specs.Copy.{Kind, created, Out}
use Rattle.commit.specs.Commit.{commit_of}
use Rattle.append.specs.declared.Tail.{Tail}
use Rattle.append.specs.Appender.{is_closed}
use Rattle.append.specs.Calls.{call_of}
use Rattle.append.specs.Flush.{AppOut, with_run}
use Rattle.files.specs.declared.Rollover.{Rollover}
use Rattle.files.specs.Opened.{refused_at, opened_out}
use Rattle.files.specs.Create.{Next, make_out, over_out, round_out, create_from, create_of}
use Rattle.reopen.specs.Reopen.{tail_for}
use Rattle.safe.proofs.Frame.{clash}
use Rattle.store.specs.Opening.{rollover_of}
use Rattle.power.specs.Calls.{Rules, Call, create, open_append, append}
use Rattle.power.specs.Book as book
use Rattle.power.specs.Book.{File, terms_of}
use Rattle.power.specs.History.{World, is_ok, if_ok, with_left, ran_create, ran, fed_by}
use Rattle.power.specs.Room.{Tells}
use Rattle.power.proofs.Fine.{Fine, forget, entered, entered_all, before_steps, after_steps, opened_for, written}
use Rattle.power.proofs.Whole.{Keeps}
use Rattle.power.proofs.Steps.{kinds_of}
use Rattle.power.proofs.Members.{Mem, mem_new, more_mem}
use Rattle.power.proofs.Rules.{admits, create_by_lem, open_by_lem}
use Rattle.power.proofs.Creates.{steps_done}
use Rattle.power.proofs.Reopening.{book_id, opened_world, opened_book, open_ways}
use Rattle.power.proofs.Running.{Opened, append_short}
use Rattle.power.proofs.Staged.{told_fed}
use Rattle.power.proofs.Points.{create_known}

-- between the calls of a setting: what is unwritten, and whose file it goes to
pub record Begun (name bytes : List ℕ) (w : World) (b : Fine) : Type 0 where
  pub opened : Opened w
  pub fill : w.appender.fill ≡ length bytes
  pub plain : b.rollover ≡ none
  pub unwritten : b.unwritten ≡ bytes
  pub own : (f : File) → Mem f b.files → f.name ≡ name → f.id ≡ b.file
  pub there : (f : File) × Mem f b.files × (f.name ≡ name)

pub done_of : (o : Result Unit Error) → is_ok (outcome_of o) ≡ true → o ≡ Ok tt
done_of (Ok tt) h = refl
done_of (Err x) h = absurd (false≢true h)

-- ---- open_append

live_tail : (size n : ℕ) → is_closed (tail_for size n) ≡ false
unfolding tail_for is_closed
live_tail size n =
    let Live : Tail → Type 0 = λ t. is_closed t ≡ false in
    pick_keeps Live (eqb n 0) _ _ refl (pick_keeps Live (eqb n size) _ _ refl refl)

module _ (rules : Rules) (w : World) (b : Fine) (k : Keeps w b) (left : ℕ) (name dir : List ℕ) where
  abbrev reopening : Call
  reopening = open_append rules left name false dir

  pub open_begun : (ran w reopening).accepted ≡ true → Begun name [] (ran w reopening).world (written reopening (fed_by w reopening) b)
  unfolding ran pick
  open_begun =
      open_ways rules left name false dir w b k ((ran w reopening).accepted ≡ true → Begun name [] (ran w reopening).world (written reopening (fed_by w reopening) b))
      (λ e q a. absurd (false≢true (rw (open_by_lem w.vol w.store name false dir rules (with_left left w.medium), q) at a)))
      (λ s id h e d q a.
      rw (opened_world rules left name false dir w b k s id h e d q, opened_book rules left name false dir w b k s id h e d q)
      (record {
        opened = record { writer = refl; live = live_tail _ _ };
        fill = refl;
        plain = refl;
        unwritten = refl;
        own = λ f mem n.
            let o = k.whole.ties.from f mem in
            sym (book_id w.vol (with_left left w.medium) w.store k.layout b k.whole k.readable o.0 name f.id o.1 (rw (← n) o.2));
        there = (_, k.whole.ties.into s name id h e, refl);
      }))

-- ---- create: accepted it makes the file and nothing else, refused it makes no step

record Made (o : AppOut) : Type 0 where
  kinds : o.ans.outcome ≡ Ok tt → kinds_of o.steps ≡ created ∷ []
  writer : o.ans.outcome ≡ Ok tt → o.ans.store.writer ≡ opened_by o.ans.appender.token o.ans.appender.id
  live : o.ans.outcome ≡ Ok tt → is_closed o.ans.appender.tail ≡ false
  fill : o.ans.outcome ≡ Ok tt → o.ans.appender.fill ≡ 0
  none : (e : Error) → o.ans.outcome ≡ Err e → kinds_of o.steps ≡ []

refused_made : (vol : List ℕ) (m : Medium) (st : Store) (e : Error) → Made (refused_at vol m st e)
refused_made vol m st e = record { kinds = λ d. clash refl d; writer = λ d. clash refl d; live = λ d. clash refl d; fill = λ d. clash refl d; none = λ _ _. refl }

module _ (name : List ℕ) (over : Rollover) (plain : over.rolls ≡ false) (vol : List ℕ) (m : Medium) (st : Store) where
  make_made : (slot chunk : ℕ) → Made (make_out name over vol m st slot chunk)
  unfolding make_out opened_out is_closed
  make_made slot chunk =
      let o : Out = commit_of (Create slot st.head.next_id chunk) name vol m st in
      pick_keeps Made _ _ _ (refused_made vol m st _)
      (on_done_keeps Made o.ans.outcome _ _
      (λ d. record { kinds = λ _. rw (steps_done created o d) refl; writer = λ _. refl; live = λ _. refl; fill = λ _. refl; none = λ e x. clash x refl })
      (λ e _. refused_made o.vol o.ans.medium o.ans.store e))

  over_made : (next : Next) → Made (over_out over next vol m st)
  unfolding over_out
  over_made next = pick_keeps_by Made over.rolls _ _ (λ r. absurd (true≢false (sym r ∙ plain))) (λ _. refused_made vol m st _)

  round_made : (next : Next) → Made (round_out name over next vol m st)
  unfolding round_out
  round_made next =
      on_looked_keeps Made _ _ _ (refused_made vol m st)
      (λ s _. pick_keeps Made s.exists _ _ (refused_made vol m st _)
      (on_free_keeps Made s.free _ _ (λ _. over_made next)
      (λ slot _. on_pick_keeps Made (free_of vol m st) _ _ _ (refused_made vol m st) (over_made next) (λ c _. make_made slot c))))

module _ (rules : Rules) (w : World) (b : Fine) (k : Keeps w b) (left : ℕ) (name dir : List ℕ) where
  abbrev making : Call
  making = create rules left name false dir

  abbrev out : AppOut
  out = on_done (admits w.vol w.store name false dir rules) (create_of name (rollover_of false dir) w.vol (with_left left w.medium) w.store) (refused_at w.vol (with_left left w.medium) w.store)

  is_out : ran w making ≡ ran_create w (call_of out)
  unfolding ran
  is_out = ap (ran_create w) (create_by_lem w.vol w.store name false dir rules (with_left left w.medium))

  create_made : Made (create_of name (rollover_of false dir) w.vol (with_left left w.medium) w.store)
  unfolding create_from rollover_of
  create_made = round_made name (rollover_of false dir) refl w.vol (with_left left w.medium) w.store (create_from 1 name (rollover_of false dir))

  out_made : Made out
  out_made = on_done_keeps Made _ _ _ (λ _. create_made) (λ e _. refused_made _ _ _ e)

  module _ (accepted : (ran w making).accepted ≡ true) where
    is_done : out.ans.outcome ≡ Ok tt
    is_done = done_of _ (rw is_out at accepted)

    pub create_told : Tells w making (created ∷ [])
    create_told = (accepted, rw is_out (out_made.kinds is_done))

    abbrev new : File
    new = record { name = name; id = b.next; chunks = 1; payloads = [] }

    made_book : written making (fed_by w making) b ≡ opened_for (b.next + 1 - 1) none (entered (terms_of making none (forget b)) created b)
    unfolding written terms_of entered_all entered book.entered before_steps book.before_steps after_steps book.after_steps pick
    made_book = rw (told_fed w making create_told)

    made_opened : Opened (ran w making).world × ((ran w making).world.appender.fill ≡ 0)
    unfolding if_ok
    made_opened = rw (is_out, is_done) (record { writer = out_made.writer is_done; live = out_made.live is_done }, out_made.fill is_done)

    -- a file of the name was not there
    not_there : (f : File) → Mem f b.files → f.name ≡ name → ⊥
    not_there f mem n =
        let z : (ran w making).steps ≡ [] = subst (λ (x : List ℕ). (ran w (create rules left x false dir)).steps ≡ []) n (create_known rules w b k f mem left false dir) in
        let y : ◌≡◌ {A = List Kind} [] (created ∷ []) = sym (ap kinds_of z) ∙ create_told.1 in
        let u : ◌≡◌ {A = ℕ} 0 1 = cc in
        omega (arith, u)

    pub create_begun : Begun name [] (ran w making).world (written making (fed_by w making) b)
    unfolding entered book.entered terms_of
    create_begun =
        rw made_book
        (record {
          opened = made_opened.0;
          fill = made_opened.1;
          plain = refl;
          unwritten = refl;
          own = λ f mem n. own_new f n (more_mem f b.files new mem);
          there = (new, mem_new b.files new, refl);
        })
      where
        own_new : (f : File) → f.name ≡ name → Mem f b.files ⊎ (f ≡ new) → f.id ≡ b.next + 1 - 1
        own_new f n (inl x) = absurd (not_there f x n)
        own_new f n (inr x) = ap (λ (g : File). g.id) x ∙ (omega arith)

  -- refused, the book is as it was
  pub create_unmade : (ran w making).accepted ≡ false → written making (fed_by w making) b ≡ b
  unfolding written fed_by entered_all before_steps book.before_steps pick
  create_unmade refused = go out.ans.outcome refl
    where
      go : (o : Result Unit Error) → out.ans.outcome ≡ o → written making (fed_by w making) b ≡ b
      go (Ok tt) q = absurd (true≢false (sym (ap (λ (o : Result Unit Error). is_ok (outcome_of o)) q) ∙ (rw is_out at refused)))
      go (Err e) q = rw (is_out, q, out_made.none e q)

-- ---- append, of a line shorter than a record takes

module _ (name : List ℕ) (w : World) (b : Fine) (k : Keeps w b) (y : Begun name [] w b) (left : ℕ) (bytes : List ℕ) (few : length bytes < 486) where
  appended : ran w (append left bytes) ≡ record {
    world = record { vol = w.vol; store = w.store; appender = with_run bytes w.appender; medium = with_left left w.medium };
    accepted = true;
    steps = [];
  }
  appended = append_short k y.opened left bytes (omega (arith, y.fill, few))

  pub append_told : Tells w (append left bytes) []
  append_told = rw appended (refl, refl)

  kept_book : written (append left bytes) (fed_by w (append left bytes)) b ≡ before_steps (append left bytes) b
  unfolding written terms_of entered_all after_steps book.after_steps pick
  kept_book = rw (told_fed w (append left bytes) append_told)

  pub append_begun : Begun name bytes (ran w (append left bytes)).world (written (append left bytes) (fed_by w (append left bytes)) b)
  unfolding before_steps book.before_steps
  append_begun =
      rw (kept_book, appended)
      (record {
        opened = record { writer = y.opened.writer; live = y.opened.live };
        fill = ap (λ (n : ℕ). n + length bytes) y.fill ∙ zero-add (length bytes);
        plain = y.plain;
        unwritten = ap (λ (l : List ℕ). l ++ bytes) y.unwritten;
        own = y.own;
        there = y.there;
      })
