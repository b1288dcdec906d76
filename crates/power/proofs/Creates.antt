-- create keeps what holds between the calls: its steps stand, and accepted its appender stands at the start of the file made. Assumes nothing.
use Rattle.std.specs.Prelude.{Option as Maybe, Some, None, Result, Ok, Err}
use Prim.Native.Nat.{ℕ, zero, suc, ◌+◌, ◌-◌, ◌^◌, ◌<◌}
use mathlib.Core.Path.{◌≡◌, refl}
use mathlib.Core.Bool.{Bool, true, false}
use mathlib.Core.Option.{Option, none}
use mathlib.Core.List.{List, [], ◌∷◌}
use native.Mathlib.Omega.{arith}
use borrow.Author.Tests.{eqb-false}
use lib.Dec.{eqb}
use Rattle.le.specs.Choice.{pick}
use Rattle.le.proofs.Choices.{pick_keeps_by}
use Rattle.names.specs.Names.{name_ok}
use Rattle.medium.specs.declared.Error.{Error}
use Rattle.medium.specs.declared.Medium.{Medium}
use Rattle.medium.specs.Refusal.{on_done, outcome_of}
use Rattle.medium.proofs.Laws.{on_done_keeps}
use Rattle.handles.specs.declared.Store.{Store}
use Rattle.directory.specs.declared.Seen.{Seen}
use Rattle.directory.proofs.Decides.{on_free_keeps}
use Rattle.directory.specs.Scan.{on_looked}
use Rattle.table.specs.Table.{on_pick}
use Rattle.table.specs.Free.{free_of}
use Rattle.plan.specs.declared.Edit.TheVariants.{Create}
use Rattle.plan.specs.Copy.{Kind, created, rolled_over, Skipped, Out, steps_of, EachSkipped, Distinct}
use Rattle.commit.specs.Commit.{commit_of}
use Rattle.remove.specs.Remove.{GoneOut, remove_oldest_of}
use Rattle.append.specs.declared.Tail.TheVariants.{At}
use Rattle.append.specs.Appender.{dir_bytes}
use Rattle.append.specs.Flush.{AppOut, after, rolling}
use Rattle.append.specs.Calls.{call_of}
use Rattle.files.specs.declared.Rollover.{Rollover}
use Rattle.files.specs.Opened.{refused_at, next_token, with_token, written_by, new_appender, opened_out}
use Rattle.files.specs.Create.{Next, make_out, over_out, round_out, create_from}
use Rattle.store.specs.Opening.{rollover_of}
use Rattle.folds.proofs.Named.{Look, look_view}
use Rattle.folds.proofs.Chunks.{free_chunk}
use Rattle.power.specs.Calls.{Rules, create}
use Rattle.power.specs.Book as book
use Rattle.power.specs.Book.{Terms, if_set, terms_of}
use Rattle.power.specs.History.{World, is_ok, if_ok, with_left, ran_create, ran, fed_by, EachStep}
use Rattle.power.proofs.Fine.{Fine, opened_for, entered, entered_all, before_steps, after_steps, written}
use Rattle.power.proofs.Whole.{Keeps}
use Rattle.power.proofs.Checks.{inv_checked}
use Rattle.power.proofs.Unmade.{Unmade, unmade_keeps}
use Rattle.power.proofs.Removing.{gone_keeps}
use Rattle.power.proofs.Oldest.{oldest_stopped, oldest_none, oldest_made}
use Rattle.power.proofs.Steps.{kinds_of}
use Rattle.power.proofs.Asks.{Directed, directed_set, Opens, asked_opens}
use Rattle.power.proofs.Rules.{admits_asked, create_by_lem}
use Rattle.power.proofs.Making.{make_stopped, make_done, made_keeps}
use Rattle.safe.proofs.Invs.{inv_held}

pub steps_done : (kind : Kind) (o : Out) → o.ans.outcome ≡ Ok tt → steps_of kind o ≡ (record { kind = kind; skipped = o.skipped }) ∷ []
unfolding steps_of on_done
steps_done kind o d = rw d refl

-- the book of an accepted call has the new appender's file
unfoldable closing : Option (List ℕ) → Bool → Fine → Fine
closing dir accepted b = pick accepted (opened_for (b.next - 1) dir b) b

-- whatever happened, its steps stand
unfoldable Ends : Terms → World → Fine → AppOut → Type 0
Ends t w b o = EachStep Distinct o.steps → Keeps (ran_create w (call_of o)).world (closing t.dir (is_ok (outcome_of o.ans.outcome)) (entered_all t (kinds_of o.steps) b))

module _ (t : Terms) where
  -- refused with no step more
  refused_ends : (w : World) (b : Fine) {v : List ℕ} {u : Medium} {s : Store} (e : Error) → Keeps (record { vol = v; store = s; appender = w.appender; medium = u }) b
      → Ends t w b (refused_at v u s e)
  unfolding Ends closing pick if_ok entered_all
  refused_ends w b e k h = k

  unmade_ends : (w : World) (b : Fine) {v : List ℕ} {u : Medium} {s : Store} (e : Error) (k : Keeps w b) → Unmade w.vol w.medium w.store k.layout b v u s
      → Ends t w b (refused_at v u s e)
  unmade_ends w b e k n =
      refused_ends w b e (unmade_keeps w b k k.readable n)

  -- a file went first
  rolled_ends : (w : World) (b : Fine) (v : List ℕ) (u : Medium) (s : Store) (skipped : List Skipped) (o : AppOut)
      → (EachSkipped Distinct skipped → Ends t (record { vol = v; store = s; appender = w.appender; medium = u }) (entered t rolled_over b) o) → Ends t w b (after (rolling skipped) o)
  unfolding Ends EachStep entered_all
  rolled_ends w b v u s skipped o f h = f h.0 h.1

module _ (t : Terms) (over : Rollover) (spares : t.spared ≡ none) (directed : Directed over t.dir) (ok : name_ok t.name ≡ true) where
  -- the file is made
  opened_ends : (w : World) (b : Fine) (o : Out) (slot id chunk : ℕ) → o.ans.outcome ≡ Ok tt
      → (EachSkipped Distinct o.skipped
      → Keeps (record {
        vol = o.vol;
        store = written_by (next_token o.ans.medium) id o.ans.store;
        appender = new_appender (next_token o.ans.medium) slot id chunk 0 (At 0) over;
        medium = with_token o.ans.medium;
      }) (opened_for (b.next + 1 - 1) t.dir (entered t created b)))
      → Ends t w b (after (steps_of created o) (opened_out o.vol o.ans.medium o.ans.store slot id chunk 0 (At 0) over))
  unfolding Ends closing pick if_ok opened_out EachStep entered_all entered book.entered
  opened_ends w b o slot id chunk d f = rw (steps_done created o d) (λ h. f h.0)

  module _ (w : World) (b : Fine) (k : Keeps w b) where
    -- a slot and a chunk are free
    make_ends : (seen : Seen) → Look w.vol w.medium w.store t.name seen → seen.exists ≡ false → {slot : ℕ} → seen.free ≡ Some slot → (c : ℕ) → free_of w.vol w.medium w.store ≡ Ok (Some c)
        → Ends t w b (make_out t.name over w.vol w.medium w.store slot c)
    unfolding make_out
    make_ends seen l fresh {slot} room c q =
        let f = free_chunk w.vol w.medium w.store (inv_held k.whole.inv) k.whole.map q in
        pick_keeps_by (Ends t w b) (eqb w.store.head.next_id (2 ^ 32 - 1)) _ _
        (λ e. refused_ends t w b _ k)
        (λ e.
        let small : w.store.head.next_id + 1 < 2 ^ 32 = omega (arith, eqb-false w.store.head.next_id (2 ^ 32 - 1) e, k.whole.inv.range.next) in
        on_done_keeps (Ends t w b) _ _ _
        (λ d. opened_ends w b (commit_of (Create slot w.store.head.next_id c) t.name w.vol w.medium w.store) slot w.store.head.next_id c d (λ h.
        made_keeps w b k t slot c (l.below room) (l.vacant room) (l.new fresh) f.0 f.1 ok small over directed
        (make_done w b k t slot c (l.below room) (l.vacant room) (l.new fresh) f.0 f.1 ok small d h)))
        (λ x d. unmade_ends t w b x k (make_stopped w b k t slot c (l.below room) (l.vacant room) (l.new fresh) f.0 f.1 ok small d)))

    -- the oldest file of the rollover's directory goes, whichever is open
    module _ (next : Next) (ih : (w' : World) (b' : Fine) → Keeps w' b' → Ends t w' b' (next w'.vol w'.medium w'.store)) where
      abbrev g : GoneOut
      g = remove_oldest_of w.vol w.medium w.store (dir_bytes over.dir) None

      went_ends : over.rolls ≡ true → g.ans.any ≡ true → Ends t w b (after (rolling g.skipped) (next g.vol g.ans.medium g.ans.store))
      unfolding entered book.entered pick
      went_ends r e =
          rolled_ends t w b g.vol g.ans.medium g.ans.store g.skipped _
          (λ h.
          let x = oldest_made w.vol w.medium w.store k.layout b k.whole k.readable (dir_bytes over.dir) None e h in
          ih _ _ (gone_keeps w b k k.readable x.gone _ (rw (spares, directed_set directed r) x.whole)))

      over_ends : Ends t w b (over_out over next w.vol w.medium w.store)
      unfolding over_out
      over_ends =
          pick_keeps_by (Ends t w b) over.rolls _ _
          (λ r. on_done_keeps (Ends t w b) g.ans.outcome _ _
          (λ d. pick_keeps_by (Ends t w b) g.ans.any _ _
          (λ e. went_ends r e)
          (λ e.
          let x = oldest_none w.vol w.medium w.store k.layout b k.whole k.readable (dir_bytes over.dir) None d e in
          refused_ends t w b _ (rw (x.0, x.1, x.2) k)))
          (λ x d. unmade_ends t w b x k (oldest_stopped w.vol w.medium w.store k.layout b k.whole k.readable (dir_bytes over.dir) None d).0))
          (λ r. refused_ends t w b _ k)

      pick_ends : (seen : Seen) → Look w.vol w.medium w.store t.name seen → seen.exists ≡ false → {slot : ℕ} → seen.free ≡ Some slot → (p : Result (Maybe ℕ) Error) → free_of w.vol w.medium w.store ≡ p
          → Ends t w b (on_pick p (refused_at w.vol w.medium w.store) (over_out over next w.vol w.medium w.store) (make_out t.name over w.vol w.medium w.store slot))
      unfolding on_pick
      pick_ends seen l fresh room (Err e) q = refused_ends t w b e k
      pick_ends seen l fresh room (Ok None) q = over_ends
      pick_ends seen l fresh room (Ok (Some c)) q = make_ends seen l fresh room c q

      round_ends : Ends t w b (round_out t.name over next w.vol w.medium w.store)
      unfolding round_out on_looked
      round_ends =
          let l = look_view w.vol w.medium w.store (inv_checked w.medium k.whole.inv k.readable) k.layout k.whole.good t.name in
          rw l.1.answer
          (pick_keeps_by (Ends t w b) l.0.exists _ _
          (λ e. refused_ends t w b _ k)
          (λ fresh. on_free_keeps (Ends t w b) l.0.free _ _ (λ _. over_ends)
          (λ slot room. pick_ends l.0 l.1 fresh room (free_of w.vol w.medium w.store) refl)))

  create_ends : (n : ℕ) (w : World) (b : Fine) → Keeps w b → Ends t w b (create_from n t.name over w.vol w.medium w.store)
  unfolding create_from
  create_ends zero w b k = refused_ends t w b _ k
  create_ends (suc n) w b k = round_ends w b k (create_from n t.name over) (create_ends n)

pub create_keeps : (rules : Rules) (w : World) (b : Fine) → Keeps w b → (left : ℕ) (name : List ℕ) (rolls : Bool) (dir : List ℕ) → EachStep Distinct (ran w (create rules left name rolls dir)).steps
    → Keeps (ran w (create rules left name rolls dir)).world (written (create rules left name rolls dir) (fed_by w (create rules left name rolls dir)) b)
unfolding ran written fed_by terms_of before_steps book.before_steps after_steps book.after_steps rollover_of Ends closing
create_keeps rules w b k left name rolls dir =
    let m : Medium = with_left left w.medium in
    let w' : World = record { vol = w.vol; store = w.store; appender = w.appender; medium = m } in
    let k' : Keeps w' b = record { layout = k.layout; whole = k.whole; owns = k.owns; readable = k.readable } in
    let t : Terms = record { name = name; dir = if_set rolls dir; spared = none } in
    rw (create_by_lem w.vol w.store name rolls dir rules m)
    (on_done_keeps (Ends t w' b) _ _ _
    (λ d.
    let a : Opens name rolls dir = asked_opens w.vol w.store name rolls dir (admits_asked w.vol w.store name rolls dir rules d) in
    create_ends t (rollover_of rolls dir) refl a.directed a.name_fine 2 w' b k')
    (λ e d. refused_ends t w' b e k'))
