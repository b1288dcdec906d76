-- The claim's premise on sectors left unwritten is met by sectors: on 128 sectors of zeros a file is created and deleted at once. The delete is accepted
-- with 01's two writes, its step lists all nine body sectors as left unwritten, each holds the bytes due, and the volume holds no file. Assumes nothing.
use Rattle.std.specs.Prelude.{Ok, Result, Err}
use Rattle.medium.specs.declared.Error.{Error}
use Prim.Native.Nat.{ℕ, ◌+◌, ◌-◌, ◌/◌, ◌^◌, ◌≤◌, ◌<◌}
use mathlib.Core.Path.{◌≡◌, refl, sym, ap, subst, ◌∙◌}
use mathlib.Core.Bool.{true, false}
use mathlib.Core.Option.{none}
use mathlib.Core.List.{List, [], ◌∷◌}
use native.Mathlib.Omega.{arith}
use lib.Dec.{lit≤, lit<}
use lib.ListN.{length}
use Rattle.le.specs.Choice.{pick}
use Rattle.le.specs.Part.{zeros}
use Rattle.le.proofs.Parts.{length_zeros}
use Rattle.names.specs.Names.{name_ok}
use Rattle.names.proofs.Laws.{name_short}
use Rattle.medium.specs.declared.Medium.{Medium}
use Rattle.medium.specs.Refusal.{outcome_of}
use Rattle.medium.specs.Sector.{sector_at, Readable}
use Rattle.handles.specs.declared.Header.{Header}
use Rattle.handles.specs.Body.{body_at}
use Rattle.handles.specs.Handles.{body_of}
use Rattle.directory.specs.declared.Found.{Found}
use Rattle.directory.specs.Scan.{find_of, on_found, found_at}
use Rattle.plan.specs.declared.Edit.TheVariants.{Remove}
use Rattle.plan.specs.Edit.{head_after}
use Rattle.plan.specs.Copy.{deleted, Skipped, EachSkipped, Plan, Out, skipped_from, refused_out, steps_of}
use Rattle.format.specs.Format.{chunks_of}
use Rattle.medium.proofs.Laws.{on_done_done}
use Rattle.append.specs.declared.Appender.{Appender}
use Rattle.append.specs.declared.Tail.TheVariants.{At}
use Rattle.remove.specs.Remove.{remove_of}
use Rattle.files.specs.Opened.{next_token, with_token, written_by, new_appender}
use Rattle.safe.specs.Copy.{body_count}
use Rattle.safe.specs.Inv.{plan_of}
use Rattle.safe.proofs.Invs.{inv_held}
use Rattle.layout.specs.Views.{named, disk_of}
use Rattle.views.proofs.Commits.{inv_sane, commit_edited}
use Rattle.views.proofs.Makes
use Rattle.views.proofs.Stays.{writer_unchanged}
use Rattle.runs.proofs.Tests.{same_self}
use Rattle.folds.proofs.Named.{find_there}
use Rattle.store.specs.Asked.{asked_name, asked_of}
use Rattle.store.specs.Opening.{rollover_of}
use Rattle.store.specs.Writing.{format_call, delete_call}
use Rattle.power.specs.Calls.{Rules, Call, create, delete}
use Rattle.power.specs.Book.{Book, new_book, keep, without_name, terms_of, entered, entered_all, before_steps, after_steps, written}
use Rattle.power.specs.History.{World, Ran, is_ok, with_left, create_by, ran, fed_by, after, book_of, Given, EachStep, Honest, Premise}
use Rattle.power.specs.Claim.{Holds, started}
use Rattle.power.specs.Room.{Allows}
use Rattle.power.proofs.Whole.{Booked}
use Rattle.power.proofs.Checks.{inv_checked}
use Rattle.power.proofs.Creates.{steps_done}
use Rattle.power.proofs.FirstCreate.{Opened}
use Rattle.power.proofs.Starting.{zero_bytes, zero_accepted}
use Rattle.power.proofs.Skipping.{commit_two, all_honest, as_many}
use Rattle.power.proofs.History.{weaker, no_batch_lost}
use Rattle.power.proofs.Sanity as sanity

-- a delete of this name with two writes left is accepted, and leaves nine body sectors unwritten, each of which holds the bytes due
pub record Skipped9 (name : List ℕ) (w : World) : Type 0 where
  pub accepted : (ran w (delete 2 name)).accepted ≡ true
  pub skipped : List Skipped
  pub steps : (ran w (delete 2 name)).steps ≡ (record { kind = deleted; skipped = skipped }) ∷ []
  pub honest : EachSkipped Honest skipped
  pub nine : length skipped ≡ 9

module _ (seed : ℕ) (m : Medium) (ap₀ : Appender) (left : 11 ≤ m.left) (r : 128 ≤ m.unreadable) (rules : Rules) (name : List ℕ) (allows : Allows rules name) (fine : name_ok name ≡ true) where
  reads : Readable (zeros 65536) m
  reads = rw (length_zeros 65536) r

  needs : body_of (chunks_of (65536 / 512) 4) + 2 ≤ m.left
  needs = rw sanity.eleven_128 left

  eleven : body_of (chunks_of (65536 / 512) 4) + 2 ≤ 11
  eleven = rw sanity.eleven_128 (lit≤ tt)

  abbrev w₀ : World
  w₀ = started (format_call (zeros 65536) m 4 seed) ap₀

  keeps₀ : Booked w₀ new_book
  keeps₀ = sanity.start_keeps 65536 4 seed m ap₀ (lit≤ tt) reads (lit≤ tt) (lit≤ tt) sanity.some_128 needs

  next₀ : w₀.store.head.next_id ≡ 1
  next₀ = sanity.start_next 65536 4 seed m ap₀ (lit≤ tt) reads (lit≤ tt) (lit≤ tt) sanity.some_128 needs

  empty : (k : ℕ) → k < body_of w₀.store.head.chunks → sector_at w₀.vol (body_at w₀.store k) ≡ zeros 512
  unfolding format_call
  empty = (sanity.made 65536 4 seed m ap₀ (lit≤ tt) reads (lit≤ tt) (lit≤ tt) sanity.some_128 needs).body

  -- ---- created

  abbrev making : Call
  making = create rules 11 name false []

  abbrev first : Opened 1 name w₀.vol (with_left 11 w₀.medium) w₀.store (rollover_of false []) (create_by rules w₀.vol (with_left 11 w₀.medium) w₀.store name false [])
  first = sanity.opened 65536 4 seed m ap₀ (lit≤ tt) reads (lit≤ tt) (lit≤ tt) sanity.some_128 needs rules name allows fine 11 eleven

  abbrev book₁ : Book
  book₁ = record { next = 2; files = (record { name = name; id = 1; chunks = 1; payloads = [] }) ∷ []; file = 1; rollover = none; unwritten = [] }

  abbrev w₁ : World
  w₁ =
      record {
        vol = first.out.vol;
        store = written_by (next_token first.out.ans.medium) 1 first.out.ans.store;
        appender = new_appender (next_token first.out.ans.medium) 0 1 0 0 (At 0) (rollover_of false []);
        medium = with_token first.out.ans.medium;
      }

  is_w₁ : (ran w₀ making).world ≡ w₁
  is_w₁ = ap (λ (x : Ran). x.world) (sanity.create_run 65536 4 seed m ap₀ (lit≤ tt) reads (lit≤ tt) (lit≤ tt) sanity.some_128 needs rules name allows fine 11 eleven)

  keeps₁ : Booked w₁ book₁
  keeps₁ = subst (λ (w : World). Booked w book₁) is_w₁ (sanity.keeps₂ 65536 4 seed m ap₀ (lit≤ tt) reads (lit≤ tt) (lit≤ tt) sanity.some_128 needs rules name allows fine 11 eleven)

  -- ---- and deleted

  abbrev u : Medium
  u = with_left 2 w₁.medium

  entry : (disk_of w₁.vol w₁.store).entry 0 ≡ named name 1
  entry =
      let c = Makes.created (inv_sane keeps₀.keeps.whole.inv) (commit_edited first.made) (lit< tt) (inv_held keeps₀.keeps.whole.inv).head.chunks_least (name_short name fine) fine (sym next₀) (lit< tt) in
      (writer_unchanged first.out.vol first.out.ans.store w₁.store refl refl).entries 0 (lit< tt) ∙ c.entry ∙ ap (named name) next₀

  named_at : find_of w₁.vol u w₁.store name ≡ found_at 0 1
  named_at =
      find_there w₁.vol u w₁.store (inv_checked u keeps₁.keeps.whole.inv keeps₁.keeps.readable) keeps₁.keeps.layout keeps₁.keeps.whole.good name 0 1 (lit< tt) entry

  less : w₁.store.head.generation ≡ 2 ^ 64 - 1 → ⊥
  unfolding head_after
  less e =
      let g : w₁.store.head.generation ≡ w₀.store.head.generation + 1 = ap (λ (h : Header). h.generation) first.made.head in
      let z : w₀.store.head.generation ≡ 0 + 1 = sanity.start_generation 65536 4 seed m ap₀ (lit≤ tt) reads (lit≤ tt) (lit≤ tt) sanity.some_128 needs in
      omega (arith, g, z)

  abbrev plan : Plan
  plan = plan_of (Remove 0) [] w₁.vol u w₁.store

  abbrev skipped : List Skipped
  skipped = skipped_from plan w₁.vol u (body_count plan) 0

  abbrev gone : Out
  gone = remove_of w₁.vol u w₁.store 0 1

  is_gone : (gone.ans.outcome ≡ Ok tt) × (gone.skipped ≡ skipped)
  unfolding remove_of
  is_gone =
      let c = commit_two w₀.vol (with_left 11 w₀.medium) w₀.store keeps₀.keeps.whole.inv empty name 1 (name_short name fine) first.out first.made u w₁.store refl refl refl
      keeps₁.keeps.readable (lit≤ tt) less in
      let x = on_done_done _ _ c.0 in
      (ap (λ (o : Out). o.ans.outcome) x, ap (λ (o : Out). o.skipped) x ∙ c.1)

  asked : asked_name w₁.vol w₁.store name ≡ Ok tt
  unfolding asked_of pick
  asked = rw (keeps₁.keeps.whole.inv.ok, fine)

  deletes : ((ran w₁ (delete 2 name)).accepted ≡ true) × ((ran w₁ (delete 2 name)).steps ≡ (record { kind = deleted; skipped = skipped }) ∷ [])
  unfolding ran delete_call on_found
  deletes =
      let x = on_done_done (on_found (find_of w₁.vol u w₁.store name) (refused_out w₁.store w₁.vol u) (remove_of w₁.vol u w₁.store)) _ asked
      ∙ ap (λ (f : Result Found Error). on_found f (refused_out w₁.store w₁.vol u) (remove_of w₁.vol u w₁.store)) named_at in (
        ap (λ (o : Out). is_ok (outcome_of o.ans.outcome)) x ∙ ap (λ (o : Result Unit Error). is_ok (outcome_of o)) is_gone.0,
        ap (steps_of deleted) x ∙ steps_done deleted gone is_gone.0 ∙ ap (λ (l : List Skipped). (record { kind = deleted; skipped = l }) ∷ []) is_gone.1,
      )

  skips₁ : Skipped9 name w₁
  unfolding chunks_of
  skips₁ =
      record {
        accepted = deletes.0;
        skipped = skipped;
        steps = deletes.1;
        honest = all_honest w₀.vol (with_left 11 w₀.medium) w₀.store keeps₀.keeps.whole.inv empty name 1 (name_short name fine) first.out first.made u w₁.store refl refl refl
            keeps₁.keeps.readable;
        nine = as_many w₀.vol (with_left 11 w₀.medium) w₀.store keeps₀.keeps.whole.inv empty name 1 (name_short name fine) first.out first.made u w₁.store refl refl refl
            keeps₁.keeps.readable
            ∙ ap body_of (sanity.start_chunks 65536 4 seed m ap₀ (lit≤ tt) reads (lit≤ tt) (lit≤ tt) sanity.some_128 needs);
      }

  -- ---- the history

  abbrev pub calls : List Call
  calls = create rules 11 name false [] ∷ delete 2 name ∷ []

  skips : Skipped9 name (ran w₀ making).world
  skips = subst (Skipped9 name) (sym is_w₁) skips₁

  premise : Premise Honest w₀ calls
  unfolding Premise Given EachStep
  premise = (
    tt,
    sanity.create_steps 65536 4 seed m ap₀ (lit≤ tt) reads (lit≤ tt) (lit≤ tt) sanity.some_128 needs rules name allows fine 11 eleven Honest,
    (tt, subst (EachStep Honest) (sym skips.steps) (skips.honest, tt), tt),
  )

  abbrev book₂ : Book
  book₂ = record { next = 2; files = []; file = 1; rollover = none; unwritten = [] }

  delete_book : written (delete 2 name) (fed_by (ran w₀ making).world (delete 2 name)) book₁ ≡ book₂
  unfolding written terms_of entered_all entered before_steps after_steps without_name keep pick
  delete_book = rw (sanity.fed_is (ran w₀ making).world (delete 2 name) skips.accepted skips.steps, same_self name)

  books : book_of w₀ calls new_book ≡ book₂
  unfolding book_of
  books =
      ap (λ (b : Book). written (delete 2 name) (fed_by (ran w₀ making).world (delete 2 name)) b)
      (sanity.create_book 65536 4 seed m ap₀ (lit≤ tt) reads (lit≤ tt) (lit≤ tt) sanity.some_128 needs rules name allows fine 11 eleven) ∙ delete_book

  pub two_writes : Premise Honest w₀ calls × Skipped9 name (ran w₀ (create rules 11 name false [])).world × Holds (after w₀ calls).vol book₂
  two_writes = (
    premise,
    skips,
    subst (Holds (after w₀ calls).vol) books
        (no_batch_lost (zeros 65536) m 4 seed ap₀ calls (zero_bytes 65536) (zero_accepted 65536 4 seed m (lit≤ tt) reads (lit≤ tt) (lit≤ tt) sanity.some_128 needs) reads
        (sanity.clean 65536 4 seed m ap₀ (lit≤ tt) reads (lit≤ tt) (lit≤ tt) sanity.some_128 needs) (weaker calls w₀ premise)),
  )
