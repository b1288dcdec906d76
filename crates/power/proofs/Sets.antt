-- S-1: the sync of a setting: accepted, its line stands behind the others and its pin beside theirs; refused, all is as it was. Assumes nothing.
use Rattle.std.specs.Prelude.{Err, Ok, Result}
use Prim.Native.Nat.{ℕ, ◌<◌}
use mathlib.Core.Path.{◌≡◌, refl, ap, sym, subst, ◌∙◌}
use mathlib.Core.Logic.{◌≢◌, inl, inr}
use mathlib.Core.Bool.{Bool, true, false, true≢false, false≢true}
use mathlib.Core.Option.{Option, none}
use mathlib.Core.List.{List, [], ◌∷◌, ◌++◌, map, map-append}
use native.Mathlib.Omega.{arith}
use lib.Dec.{eqb}
use lib.ListN.{length, take}
use lib.Seq.{take_all}
use Rattle.le.specs.Choice.{pick}
use Rattle.le.proofs.Choices.{pick_keeps, pick_true}
use Rattle.medium.specs.declared.Error.{Error}
use Rattle.medium.specs.declared.Medium.{Medium}
use Rattle.medium.specs.Refusal.{outcome_of}
use Rattle.medium.proofs.Laws.{on_done_keeps}
use Rattle.append.specs.Calls.{AppCall, may_write, offered, sync_call}
use Rattle.plan.specs.Copy.{Kind, Step, Distinct}
use Rattle.power.specs.Calls.{present, Call, create, open_append, append, sync}
use Rattle.power.specs.Book as book
use Rattle.power.specs.Book.{File, Book, Terms, terms_of, on_file, with_chunk, with_payload, if_set}
use Rattle.power.specs.History.{World, with_left, is_ok, ran, fed_by, Given, EachStep}
use Rattle.power.specs.Points.{Pin, has_name, forgotten, Missed, Spared, SparedBy, begins}
use Rattle.power.proofs.Fine.{Fine, forget, written, fine_of, forget_written}
use Rattle.power.proofs.Whole.{Keeps}
use Rattle.power.proofs.Steps.{kinds_of}
use Rattle.power.proofs.Members.{Mem, changed, mem_on}
use Rattle.power.proofs.Running.{stands}
use Rattle.power.proofs.History.{fine_keeps}
use Rattle.power.proofs.Grows.{Grown, call_grown}
use Rattle.power.proofs.Marks.{Pinned, pinned_grown, Holding, files_stay}
use Rattle.power.proofs.Points.{has_true, has_none, Each, each_grown, Points, call_points}
use Rattle.power.proofs.Settings.{OneRecord, NoRecord, sync_by, line_there, line_absent}
use Rattle.power.proofs.Openings.{Begun, done_of, open_begun, create_told, create_begun, create_unmade, append_told, append_begun}

each_more : (b : Fine) (qs : List Pin) (q : Pin) → Each b qs → Pinned b q → Each b (qs ++ (q ∷ []))
each_more b [] q h p = (p, tt)
each_more b (x ∷ qs) q h p = (h.0, each_more b qs q h.1 p)

unset : (rolls : Bool) (dir : List ℕ) → ◌≡◌ {A = Option (List ℕ)} none (if_set rolls dir) → rolls ≡ false
unfolding pick
unset false dir e = refl
unset true dir e = absurd (let z : ◌≡◌ {A = ℕ} 0 1 = cc in omega (arith, z))

-- a file keeps its name
named_on : (id : ℕ) (u : File → File) → ((f : File) → (u f).name ≡ f.name) → (name : List ℕ) (fs : List File) → (f : File) → Mem f fs → f.name ≡ name
    → (g : File) × Mem g (on_file id u fs) × (g.name ≡ name)
named_on id u same name fs f m e =
    (changed id u f, mem_on id u f fs m, pick_keeps (λ (g : File). g.name ≡ f.name) (eqb f.id id) (u f) f (same f) refl ∙ e)

still_named : (name : List ℕ) (t : Terms) (b : Book) (ks : List Kind) → OneRecord ks → (f : File) → Mem f b.files → f.name ≡ name
    → (g : File) × Mem g (book.entered_all t ks b).files × (g.name ≡ name)
unfolding book.entered_all book.entered
still_named name t b ks (inl e) f m n = rw e (named_on b.file (with_payload (take 486 b.unwritten)) (λ x. refl) name b.files f m n)
still_named name t b ks (inr e) f m n =
    let o = named_on b.file with_chunk (λ x. refl) name b.files f m n in
    rw e (named_on b.file (with_payload (take 486 b.unwritten)) (λ x. refl) name (on_file b.file with_chunk b.files) o.0 o.1 o.2)

stays_named : (name : List ℕ) (t : Terms) (b : Book) (ks : List Kind) → NoRecord ks → (f : File) → Mem f b.files → f.name ≡ name
    → (g : File) × Mem g (book.entered_all t ks b).files × (g.name ≡ name)
unfolding book.entered_all book.entered
stays_named name t b ks (inl e) f m n = rw e (f, m, n)
stays_named name t b ks (inr e) f m n = rw e (named_on b.file with_chunk (λ x. refl) name b.files f m n)

no_of : (o : Result Unit Error) → is_ok (outcome_of o) ≡ false → (e : Error) × (o ≡ Err e)
no_of (Ok tt) h = absurd (true≢false h)
no_of (Err e) h = (e, refl)

length_zero : (l : List ℕ) → length l ≡ 0 → l ≡ []
length_zero [] e = refl
length_zero (x ∷ l) e = absurd (omega (arith, e))

module _ (w : World) (b : Fine) (k : Keeps w b) (name bytes : List ℕ) (y : Begun name bytes w b) (left : ℕ) (some_bytes : bytes ≢ []) where
  abbrev m : Medium
  m = with_left left w.medium

  abbrev later : Fine
  later = written (sync left) (fed_by w (sync left)) b

  abbrev terms : Terms
  terms = terms_of (sync left) (fed_by w (sync left)).open_file (forget b)

  no_rolls : w.appender.rolls ≡ false
  no_rolls = unset w.appender.rolls _ (sym y.plain ∙ (stands k y.opened).0.rollover)

  filled : w.appender.fill ≢ 0
  filled e = some_bytes (length_zero bytes (sym y.fill ∙ e))

  -- accepted, one record, behind a chunk more or not; refused, none
  abbrev Told : AppCall → Type 0
  Told c = (is_ok c.call.answer ≡ true → OneRecord (kinds_of c.steps)) × (is_ok c.call.answer ≡ false → NoRecord (kinds_of c.steps))

  sync_told : Told (sync_call w.vol m w.store w.appender)
  unfolding sync_call offered
  sync_told =
      on_done_keeps Told (may_write w.vol w.store w.appender) _ _
      (λ d. let s = sync_by w.vol m w.store w.appender no_rolls filled in (λ a. s.0 (done_of _ a), λ a. let x = no_of _ a in s.1 x.0 x.1))
      (λ e d. (λ a. absurd (false≢true a), λ a. inl refl))

  pub sync_record : (ran w (sync left)).accepted ≡ true → OneRecord (fed_by w (sync left)).kinds
  unfolding ran fed_by
  sync_record = sync_told.0

  pub sync_none : (ran w (sync left)).accepted ≡ false → NoRecord (fed_by w (sync left)).kinds
  unfolding ran fed_by
  sync_none = sync_told.1

  pub steps_are : forget later ≡ book.entered_all terms (fed_by w (sync left)).kinds (forget b)
  unfolding book.written book.before_steps book.after_steps
  steps_are =
      forget_written (sync left) (fed_by w (sync left)) b
      ∙ pick_keeps (λ (x : Book). x ≡ book.entered_all terms (fed_by w (sync left)).kinds (forget b)) (fed_by w (sync left)).accepted _ _ refl refl

  files : later.files ≡ (book.entered_all terms (fed_by w (sync left)).kinds (forget b)).files
  files = ap (λ (x : Book). x.files) steps_are

  grown : Grown b later
  unfolding begins
  grown = call_grown (sync left) (fed_by w (sync left)) b refl

  module _ (some : name ≢ []) (line_of : Pin → List ℕ) (pins : List Pin) (p : Points name some line_of b pins) where
    -- accepted: the line behind the others, and the pin beside theirs
    module _ (q : Pin) (pinned : Pinned b q) (line : take 486 bytes ≡ line_of q) (accepted : (ran w (sync left)).accepted ≡ true) where
      lines_are : map line_of pins ++ (take 486 b.unwritten ∷ []) ≡ map line_of (pins ++ (q ∷ []))
      lines_are =
          ap (λ (x : List ℕ). map line_of pins ++ (x ∷ [])) (ap (take 486) y.unwritten ∙ line) ∙ sym (map-append line_of pins (q ∷ []))

      held : Holding name (map line_of (pins ++ (q ∷ []))) later.files
      held =
          let x = line_there name (map line_of pins) terms (forget b) p.lines y.own (fed_by w (sync left)).kinds (sync_record accepted) in
          subst (λ (l : List (List ℕ)). Holding name l later.files) lines_are
          (subst (Holding name (map line_of pins ++ (take 486 b.unwritten ∷ []))) (sym files) x)

      pub point_set : Points name some line_of later (pins ++ (q ∷ []))
      point_set =
          record {
            each = each_more later pins q (each_grown grown pins p.each) (pinned_grown grown pinned);
            lines = held;
            none = λ h.
                let f = y.there in
                let g = still_named name terms (forget b) (fed_by w (sync left)).kinds (sync_record accepted) f.0 f.1 f.2 in
                absurd (has_none name later.files h g.0 (subst (Mem g.0) (sym files) g.1) g.2);
          }

    -- refused: all is as it was
    pub point_unset : (ran w (sync left)).accepted ≡ false → Points name some line_of later pins
    point_unset refused =
        record {
          each = each_grown grown pins p.each;
          lines = subst (Holding name (map line_of pins)) (sym files) (line_absent name (map line_of pins) terms (forget b) p.lines y.own (fed_by w (sync left)).kinds (sync_none refused));
          none = λ h.
              let f = y.there in
              let g = stays_named name terms (forget b) (fed_by w (sync left)).kinds (sync_none refused) f.0 f.1 f.2 in
              absurd (has_none name later.files h g.0 (subst (Mem g.0) (sym files) g.1) g.2);
        }

no_kinds : (l : List Step) → kinds_of l ≡ [] → l ≡ []
no_kinds [] e = refl
no_kinds (x ∷ l) e = absurd (let u : ◌≡◌ {A = ℕ} 0 1 = cc in omega (arith, u))

-- ---- a whole setting: the file of the lines is made or opened, the line appended, then synced

module _ (name : List ℕ) (some : name ≢ []) (line_of : Pin → List ℕ) where
  -- a call that makes no step and begins no new store
  pub still_points : (c : Call) (w : World) (b : Fine) (pins : List Pin) → (fed_by w c).kinds ≡ [] → begins c (ran w c).accepted ≡ false → Points name some line_of b pins
      → Points name some line_of (written c (fed_by w c) b) pins
  unfolding fed_by
  still_points c w b pins quiet same p =
      let files : (written c (fed_by w c) b).files ≡ b.files = ap (λ (x : Book). x.files) (forget_written c (fed_by w c) b) ∙ files_stay c (fed_by w c) (forget b) quiet in
      record {
        each = each_grown (call_grown c (fed_by w c) b same) pins p.each;
        lines = subst (Holding name (map line_of pins)) (sym files) p.lines;
        none = λ h. p.none (sym (ap (has_name name) files) ∙ h);
      }

  -- an accepted create of the name: no file had it, so there were no points
  pub made_points : (w : World) (b : Fine) → Keeps w b → (pins : List Pin) → Points name some line_of b pins → (left : ℕ) (dir : List ℕ) → (ran w (create present left name false dir)).accepted ≡ true
      → Points name some line_of (written (create present left name false dir) (fed_by w (create present left name false dir)) b) pins
  unfolding fed_by Spared Missed forgotten
  made_points w b k pins p left dir accepted =
      let c : Call = create present left name false dir in
      let b' : Fine = written c (fed_by w c) b in
      let y = create_begun present w b k left name dir accepted in
      let spared : SparedBy name w c (forget b) = rw (create_told present w b k left name dir accepted).1 (tt, tt) in
      let same : forgotten name b'.files pins ≡ pins
      = pick_true _ _ (has_true name b'.files y.there.0 y.there.1 y.there.2) in
      subst (Points name some line_of b') same (call_points name some line_of c w b k pins p spared)

  module _ (pins : List Pin) (q : Pin) (few : length (line_of q) < 486) (bytes : line_of q ≢ []) (left₂ left₃ : ℕ) where
    -- what a setting leaves: its point behind the others where the sync is accepted, else those alone
    abbrev pub Settled : World → Fine → Type 0
    Settled w b =
        let line : Call = append left₂ (line_of q) in
        ((ran (ran w line).world (sync left₃)).accepted ≡ true → Points name some line_of (fine_of w (line ∷ sync left₃ ∷ []) b) (pins ++ (q ∷ [])))
        × ((ran (ran w line).world (sync left₃)).accepted ≡ false → Points name some line_of (fine_of w (line ∷ sync left₃ ∷ []) b) pins)

    pub line_set : (w : World) (b : Fine) → Keeps w b → Begun name [] w b → Points name some line_of b pins → Pinned b q → Settled w b
    unfolding fine_of Given EachStep begins fed_by
    line_set w b k y p pinned =
        let line : Call = append left₂ (line_of q) in
        let told = append_told name w b k y left₂ (line_of q) few in
        let quiet : (ran w line).steps ≡ [] = no_kinds (ran w line).steps told.1 in
        let w' : World = (ran w line).world in
        let b' : Fine = written line (fed_by w line) b in
        let k' : Keeps w' b' = fine_keeps line w b k tt (subst (EachStep Distinct) (sym quiet) tt) in
        let y' : Begun name (line_of q) w' b' = append_begun name w b k y left₂ (line_of q) few in
        let p' : Points name some line_of b' pins = still_points line w b pins told.1 refl p in
        let z : Pinned b' q = pinned_grown (call_grown line (fed_by w line) b refl) pinned in (
          point_set w' b' k' name (line_of q) y' left₃ bytes some line_of pins p' q z (take_all 486 (line_of q) (omega (arith, few))),
          point_unset w' b' k' name (line_of q) y' left₃ bytes some line_of pins p',
        )

    -- the file of the lines opened, or made
    pub set_opened : (w : World) (b : Fine) → Keeps w b → Points name some line_of b pins → Pinned b q → (left₁ : ℕ) (dir : List ℕ) → (ran w (open_append present left₁ name false dir)).accepted ≡ true
        → Settled (ran w (open_append present left₁ name false dir)).world (written (open_append present left₁ name false dir) (fed_by w (open_append present left₁ name false dir)) b)
    unfolding Given EachStep begins fed_by ran
    set_opened w b k p pinned left₁ dir accepted =
        let c : Call = open_append present left₁ name false dir in
        line_set (ran w c).world (written c (fed_by w c) b) (fine_keeps c w b k tt tt) (open_begun present w b k left₁ name dir accepted) (still_points c w b pins refl refl p)
        (pinned_grown (call_grown c (fed_by w c) b refl) pinned)

    pub set_made : (w : World) (b : Fine) → Keeps w b → Points name some line_of b pins → Pinned b q → (left₁ : ℕ) (dir : List ℕ) → EachStep Distinct (ran w (create present left₁ name false dir)).steps
        → (ran w (create present left₁ name false dir)).accepted ≡ true
        → Settled (ran w (create present left₁ name false dir)).world (written (create present left₁ name false dir) (fed_by w (create present left₁ name false dir)) b)
    unfolding Given begins
    set_made w b k p pinned left₁ dir each accepted =
        let c : Call = create present left₁ name false dir in
        line_set (ran w c).world (written c (fed_by w c) b) (fine_keeps c w b k tt each) (create_begun present w b k left₁ name dir accepted) (made_points w b k pins p left₁ dir accepted)
        (pinned_grown (call_grown c (fed_by w c) b refl) pinned)

  -- refused, none is made
  pub unmade_points : (w : World) (b : Fine) → Keeps w b → (pins : List Pin) → Points name some line_of b pins → (left : ℕ) (dir : List ℕ) → (ran w (create present left name false dir)).accepted ≡ false
      → Points name some line_of (written (create present left name false dir) (fed_by w (create present left name false dir)) b) pins
  unmade_points w b k pins p left dir refused = rw (create_unmade present w b k left name dir refused) p
