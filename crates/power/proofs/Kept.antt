-- What every commit, every record and every mount and format keeps, every history keeps, on any volume: its calls may be accepted, refused or stopped, and
-- the appender at its start and every reader any. Assumes nothing.
use Rattle.std.specs.Prelude.{None, Option}
use Prim.Native.Nat.{ℕ}
use mathlib.Core.Path.{◌≡◌, refl, sym, ap, ◌∙◌}
use mathlib.Core.Bool.{true, false, true≢false, false≢true}
use mathlib.Core.List.{List, [], ◌∷◌}
use lib.ListN.{length}
use Rattle.le.proofs.Choices.{pick_keeps_by}
use Rattle.medium.specs.declared.Medium.{Medium}
use Rattle.medium.specs.Refusal.{Answer, ok, refused, outcome_of}
use Rattle.medium.proofs.Laws.{on_done_keeps}
use Rattle.handles.specs.declared.Store.{Store}
use Rattle.handles.specs.declared.Writer.{Writer}
use Rattle.handles.specs.Handles.{no_store, is_open, open_file, open_id}
use Rattle.directory.specs.Scan.{find_of}
use Rattle.directory.proofs.Ranges.{find_name}
use Rattle.directory.proofs.Decides.{on_found_keeps}
use Rattle.header.specs.declared.answers.Mounted.{Mounted}
use Rattle.header.specs.Copies.{current_of, mount_of}
use Rattle.plan.specs.Copy.{Skipped, Step, deleted, Out, steps_of}
use Rattle.format.specs.Format.{format_of}
use Rattle.format.proofs.Accepted.{format_fresh}
use Rattle.remove.specs.Remove.{GoneOut, remove_oldest_of}
use Rattle.store.specs.Reading.{mount_call}
use Rattle.store.specs.Writing.{format_call, delete_call, oldest_told, oldest_call}
use Rattle.store.proofs.Laws.{asked_done}
use Rattle.power.specs.Calls.{Call, mount, format, create, open_append, append, sync, delete, delete_oldest, query}
use Rattle.power.specs.History.{World, is_ok, if_ok, with_left, ran, after, EachStep}
use Rattle.power.specs.Map.{EachCall}
use Rattle.power.proofs.Queries.{query_world}
use Rattle.power.proofs.Openings.{done_of}
use Rattle.power.proofs.Lasts.{Lasts, Buffered, step_due, good_of, Held, Stays, remove_stays, oldest_stays}
use Rattle.power.proofs.Adds.{append_held, sync_held}
use Rattle.power.proofs.Hands.{create_held, open_held}

ok_keeps : {A B : Type 0} (K : B → Type 0) (r : Answer A) (new old : B) → (is_ok r ≡ true → K new) → (is_ok r ≡ false → K old) → K (if_ok r new old)
unfolding if_ok
ok_keeps K (ok x) new old p q = p refl
ok_keeps K (refused n) new old p q = q refl

-- a mount gives a store without a writer, and of one nothing is asked
pub mount_closed : (vol : List ℕ) (m : Medium) → (mount_call vol m).store.writer ≡ None
unfolding mount_call mount_of no_store
mount_closed vol m =
    let none = on_done_keeps (λ (r : Mounted). r.store.writer ≡ None) (current_of vol m).outcome _ _ (λ _. refl) (λ _ _. refl) in
    on_done_keeps (λ (s : Store). s.writer ≡ None) (mount_of vol m).outcome _ _ (λ _. none) (λ _ _. none)

pub unopened : {x : (Option Writer)} {Q : Type 0} → x ≡ None → is_open x ≡ true → Q
unopened e t = absurd (false≢true (sym (ap is_open e) ∙ t))

module _ {P : Skipped → Type 0} {L : List ℕ → Store → Type 0} (rules : Lasts P L) where
  module _ (w : World) (held : Held rules w) where
    abbrev Q : Type 0
    Q = length w.appender.buffer ≡ 486

    delete_held : (left : ℕ) (name : List ℕ) → EachStep P (ran w (delete left name)).steps → Held rules (ran w (delete left name)).world
    unfolding ran delete_call
    delete_held left name =
        let m : Medium = with_left left w.medium in
        let Told : Out → Type 0 = λ o. EachStep P (steps_of deleted o) → Stays rules Q o.vol o.ans.store in
        on_done_keeps Told _ _ _
        (λ d. on_found_keeps Told (find_of w.vol m w.store name) _ _ (λ _ _ _. held)
        (λ slot id q each.
        remove_stays rules Q w.vol m w.store (good_of rules w.vol w.store held.0 (asked_done w.vol w.store _ refl d).ok) held
        slot id (find_name w.vol m w.store name q).below (step_due P deleted _ each)))
        (λ _ _ _. held)

    oldest_held_lem : (left : ℕ) (dir : List ℕ) → EachStep P (ran w (delete_oldest left dir)).steps → Held rules (ran w (delete_oldest left dir)).world
    unfolding ran oldest_call oldest_told EachStep
    oldest_held_lem left dir =
        let m : Medium = with_left left w.medium in
        let g : GoneOut = remove_oldest_of w.vol m w.store dir (open_file w.store.writer) in
        let Told : GoneOut → Type 0 = λ x. EachStep P (oldest_told x).steps → Stays rules Q x.vol x.ans.store in
        on_done_keeps Told _ _ _
        (λ d.
        let gone = oldest_stays rules Q w.vol m w.store (good_of rules w.vol w.store held.0 (asked_done w.vol w.store _ refl d).ok) held
        dir (open_file w.store.writer) in
        pick_keeps_by (λ (ss : List Step). EachStep P ss → Stays rules Q g.vol g.ans.store) g.ans.any _ _
        (λ _ each. gone (λ _ _. each.0))
        (λ n _. gone (λ _ y. absurd (true≢false (sym y ∙ n)))))
        (λ _ _ _. held)

    mount_held : (m : Medium) → Held rules (ran w (mount m)).world
    unfolding ran
    mount_held m = (rules.mounted w.vol m w.store held.0, unopened (mount_closed w.vol m))

    format_held : (m : Medium) (size seed : ℕ) → EachStep P (ran w (format m size seed)).steps → Held rules (ran w (format m size seed)).world
    unfolding ran format_call
    format_held m size seed each =
        let o : Out = format_of size seed w.vol m in
        ok_keeps (Stays rules Q o.vol) (outcome_of o.ans.outcome) _ _
        (λ t. (rules.formatted w.vol m size seed w.store t each held.0, unopened (format_fresh size seed w.vol m (done_of o.ans.outcome t)).1))
        (λ n. (rules.unformatted w.vol m size seed w.store n held.0, held.1))

  -- ---- the law

  call_held : (c : Call) (w : World) → Held rules w → EachStep P (ran w c).steps → Held rules (ran w c).world
  call_held (mount m) w h e = mount_held w h m
  call_held (format m size seed) w h e = format_held w h m size seed e
  call_held (create by left name rolls dir) w h e = create_held rules w h by left name rolls dir e
  call_held (open_append by left name rolls dir) w h e = open_held rules w h by left name rolls dir
  call_held (append left bytes) w h e = append_held rules w h left bytes e
  call_held (sync left) w h e = sync_held rules w h left e
  call_held (delete left name) w h e = delete_held w h left name e
  call_held (delete_oldest left dir) w h e = oldest_held_lem w h left dir e
  call_held (query q) w h e = rw (query_world q w) h

  history_held : (cs : List Call) (w : World) → Held rules w → EachCall P w cs → Held rules (after w cs)
  unfolding after EachCall
  history_held [] w h p = h
  history_held (c ∷ cs) w h p = history_held cs (ran w c).world (call_held c w h p.0) p.1

pub lasts : {P : Skipped → Type 0} {L : List ℕ → Store → Type 0} → Lasts P L → (cs : List Call) (w : World) → L w.vol w.store → Buffered w → EachCall P w cs
    → L (after w cs).vol (after w cs).store
lasts rules cs w l b p = (history_held rules cs w (l, b) p).0
