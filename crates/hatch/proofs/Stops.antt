-- 02, S-1: "after a power stop a point is wholly there or absent". A setting, with any number of writes left, puts its line into `MARKS` exactly if it is
-- accepted, and leaves all other files. Assumes nothing.
use Rattle.std.specs.Prelude.{Ok, Result}
use Rattle.medium.specs.declared.Error.{Error}
use Prim.Native.Nat.{ℕ, ◌≤◌, ◌<◌}
use mathlib.Core.Path.{◌≡◌, refl, ap, sym, subst, ◌∙◌}
use mathlib.Core.Logic.{◌≢◌, inl, inr}
use mathlib.Core.Bool.{Bool, true, false, true≢false, false≢true}
use mathlib.Core.List.{List, [], ◌∷◌, ◌++◌, append-nil, append_assoc}
use native.Mathlib.Omega.{arith}
use lib.ListN.{length, take, length-append}
use lib.Seq.{take_all}
use Rattle.le.specs.Choice.{pick}
use Rattle.names.specs.Names.{point_ok}
use Rattle.decimal.proofs.Texts.{text_room}
use Rattle.std.specs.Prelude.{Option, None}
use Rattle.marks.specs.declared.Mark.{Mark}
use Rattle.marks.specs.Line.{marks_name, line_of, says_of}
use Rattle.marks.proofs.Round.{line_other, line_some}
use Rattle.medium.specs.Refusal.{on_ok}
use Rattle.plan.specs.Copy.{Kind, extended, recorded, Skipped, Distinct}
use Rattle.store.specs.Writing.{format_call}
use Rattle.points.specs.Look.{asked_point}
use Rattle.points.specs.Set.{mark_of}
use Rattle.points.proofs.Offers.{asked_passed, asked_short}
use Rattle.power.specs.Calls.{present, Call, create, open_append, append, sync}
use Rattle.power.specs.Book as book
use Rattle.power.specs.Book.{File, Book, Terms, terms_of, with_chunk, with_payload, without_name, new_book}
use Rattle.power.specs.History.{World, is_ok, with_left, ran, fed_by, after, book_of, Given, EachStep, Premise}
use Rattle.power.specs.Claim.{started}
use Rattle.power.proofs.Fine.{Fine, forget, new_fine, written, fine_of, forget_written, forget_history}
use Rattle.power.proofs.Whole.{Keeps}
use Rattle.power.proofs.Queries.{keeps_medium}
use Rattle.power.proofs.History.{fine_keeps, history_keeps, started_fine, weaker}
use Rattle.power.proofs.Marks.{files_stay}
use Rattle.power.proofs.Settings.{OneRecord, NoRecord}
use Rattle.power.proofs.Openings.{Begun, open_begun, create_told, create_begun, create_unmade, append_told, append_begun}
use Rattle.power.proofs.Sets.{sync_record, sync_none, steps_are}
use Rattle.power.proofs.Staged.{told_fed}
use Rattle.hatch.specs.Acts.{Act, set_point, lent, set_in, after_set, acted, after_acts, opening_call, line_calls, setting_calls, calls_of, calls_in}
use Rattle.hatch.specs.Claim.{Alike, or_next, first_of, marks_in, line_for, WhollyOrNot, PowerStop, PowerStopWeaker}
use Rattle.hatch.proofs.Alike.{alike_book, alike_premise}
use Rattle.hatch.proofs.Acts.{Found, set_ways, line_ways, counts_as_calls}
use Rattle.hatch.proofs.Files.{marks_new, others_new, Owner, owner_of_lem, owner_on, others_on, marks_chunk, marks_record}

-- ---- the line is shorter than a record takes

pub line_few : (o : Result Unit Error) (p : List ℕ) (id n : ℕ) → asked_point o p ≡ Ok tt → length (line_of p id n) < 486
unfolding line_of
line_few o p id n e = simp length-append (omega (arith, asked_short o p refl e, text_room id, text_room n))

pub not_empty : (l : List ℕ) → 1 ≤ length l → l ≢ []
not_empty l h e = omega (arith, h, ap length e)

-- ---- the files

-- `MARKS` and the others as they were; or a line more in `MARKS`
abbrev Kept : List File → List File → Type 0
Kept fs gs = (marks_in gs ≡ marks_in fs) × (without_name marks_name gs ≡ without_name marks_name fs)

abbrev Lined : List ℕ → List File → List File → Type 0
Lined x fs gs = (marks_in gs ≡ marks_in fs ++ (x ∷ [])) × (without_name marks_name gs ≡ without_name marks_name fs)

module _ (t : Terms) (b : Book) (o : Owner b.file b.files) where
  chunk_kept : Kept b.files (book.entered t extended b).files
  unfolding book.entered
  chunk_kept = (marks_chunk b.file b.files, others_on b.file with_chunk (λ f. (refl, refl)) b.files o.others)

  record_lined : Lined (take 486 b.unwritten) b.files (book.entered t recorded b).files
  unfolding book.entered
  record_lined =
      let x : List ℕ = take 486 b.unwritten in
      (marks_record b.file x b.files o.own o.there, others_on b.file (with_payload x) (λ f. (refl, refl)) b.files o.others)

module _ (t : Terms) (b : Book) (o : Owner b.file b.files) where
  owner_chunk : Owner b.file (book.entered t extended b).files
  unfolding book.entered
  owner_chunk = owner_on b.file with_chunk (λ f. (refl, refl)) b.files o

  steps_lined : (ks : List Kind) → OneRecord ks → Lined (take 486 b.unwritten) b.files (book.entered_all t ks b).files
  unfolding book.entered_all book.entered
  steps_lined ks (inl e) = rw e (record_lined t b o)
  steps_lined ks (inr e) =
      let c : Kept b.files (book.entered t extended b).files = chunk_kept t b o in
      let r = record_lined t (book.entered t extended b) owner_chunk in
      rw e (r.0 ∙ ap (λ (l : List (List ℕ)). l ++ (take 486 b.unwritten ∷ [])) c.0, r.1 ∙ c.1)

  steps_kept : (ks : List Kind) → NoRecord ks → Kept b.files (book.entered_all t ks b).files
  unfolding book.entered_all
  steps_kept ks (inl e) = rw e (refl, refl)
  steps_kept ks (inr e) = rw e (chunk_kept t b o)

-- ---- the calls of a setting

still_files : (c : Call) (w : World) (b : Fine) → (fed_by w c).kinds ≡ [] → (written c (fed_by w c) b).files ≡ b.files
still_files c w b quiet = ap (λ (x : Book). x.files) (forget_written c (fed_by w c) b) ∙ files_stay c (fed_by w c) (forget b) quiet

module _ (w : World) (b : Fine) (k : Keeps w b) (left : ℕ) where
  abbrev opened : Bool → Fine
  opened fresh = written (opening_call fresh left) (fed_by w (opening_call fresh left)) b

  abbrev making : Call
  making = create present left marks_name false []

  made_files : (ran w making).accepted ≡ true
      → (written making (fed_by w making) b).files ≡ b.files ++ (record { name = marks_name; id = b.next; chunks = 1; payloads = [] } ∷ [])
  unfolding book.written book.entered_all book.entered book.before_steps book.after_steps terms_of pick
  made_files a =
      ap (λ (x : Book). x.files) (forget_written making (fed_by w making) b) ∙ rw (told_fed w making (create_told present w b k left marks_name [] a))

  quiet : (fed_by w (open_append present left marks_name false [])).kinds ≡ []
  unfolding fed_by ran
  quiet = refl

  opening_kept : (fresh : Bool) → Kept b.files (opened fresh).files
  unfolding opening_call pick
  opening_kept false = subst (Kept b.files) (sym (still_files (open_append present left marks_name false []) w b quiet)) (refl, refl)
  opening_kept true = go (ran w making).accepted refl
    where
      go : (t : Bool) → (ran w making).accepted ≡ t → Kept b.files (opened true).files
      go true a = subst (Kept b.files) (sym (made_files a)) (marks_new b.next b.files, others_new b.next b.files)
      go false a = subst (λ (x : Fine). Kept b.files x.files) (sym (create_unmade present w b k left marks_name [] a)) (refl, refl)

  opening_begun : (fresh : Bool) → (ran w (opening_call fresh left)).accepted ≡ true → Begun marks_name [] (ran w (opening_call fresh left)).world (opened fresh)
  unfolding opening_call pick
  opening_begun true a = create_begun present w b k left marks_name [] a
  opening_begun false a = open_begun present w b k left marks_name [] a

-- `MARKS` is opened: the append is accepted, and the sync decides
module _ (w : World) (b : Fine) (k : Keeps w b) (fresh : Bool) (left₁ left₂ left₃ : ℕ) (bytes : List ℕ) (few : length bytes < 486) (some : bytes ≢ []) where
  abbrev c₁ : Call
  c₁ = opening_call fresh left₁

  abbrev c₂ : Call
  c₂ = append left₂ bytes

  abbrev c₃ : Call
  c₃ = sync left₃

  abbrev w₁ : World
  w₁ = (ran w c₁).world

  abbrev w₂ : World
  w₂ = (ran w₁ c₂).world

  abbrev b₁ : Fine
  b₁ = written c₁ (fed_by w c₁) b

  abbrev b₂ : Fine
  b₂ = written c₂ (fed_by w₁ c₂) b₁

  abbrev b₃ : Fine
  b₃ = written c₃ (fed_by w₂ c₃) b₂

  module _ (a₁ : (ran w c₁).accepted ≡ true) (g₁ : Given w c₁) (e₁ : EachStep Distinct (ran w c₁).steps) where
    k₁ : Keeps w₁ b₁
    k₁ = fine_keeps c₁ w b k g₁ e₁

    y₁ : Begun marks_name [] w₁ b₁
    y₁ = opening_begun w b k left₁ fresh a₁

    pub appends : (ran w₁ c₂).accepted ≡ true
    appends = (append_told marks_name w₁ b₁ k₁ y₁ left₂ bytes few).0

    y₂ : Begun marks_name bytes w₂ b₂
    y₂ = append_begun marks_name w₁ b₁ k₁ y₁ left₂ bytes few

    quiet₂ : (fed_by w₁ c₂).kinds ≡ []
    unfolding fed_by
    quiet₂ = (append_told marks_name w₁ b₁ k₁ y₁ left₂ bytes few).1

    kept₂ : Kept b.files b₂.files
    kept₂ = subst (Kept b.files) (sym (still_files c₂ w₁ b₁ quiet₂)) (opening_kept w b k left₁ fresh)

    module _ (g₂ : Given w₁ c₂) (e₂ : EachStep Distinct (ran w₁ c₂).steps) where
      k₂ : Keeps w₂ b₂
      k₂ = fine_keeps c₂ w₁ b₁ k₁ g₂ e₂

      owner : Owner b₂.file b₂.files
      owner = let f = y₂.there in owner_of_lem b₂.file b₂.files k₂.whole.ties.apart y₂.own f.0 f.1 f.2

      abbrev terms : Terms
      terms = terms_of c₃ (fed_by w₂ c₃).open_file (forget b₂)

      files₃ : b₃.files ≡ (book.entered_all terms (fed_by w₂ c₃).kinds (forget b₂)).files
      files₃ = ap (λ (x : Book). x.files) (steps_are w₂ b₂ k₂ marks_name bytes y₂ left₃ some)

      is_line : take 486 b₂.unwritten ≡ bytes
      is_line = ap (take 486) y₂.unwritten ∙ take_all 486 bytes (omega (arith, few))

      sync_lined : (ran w₂ c₃).accepted ≡ true → Lined bytes b.files b₃.files
      sync_lined a =
          let x = steps_lined terms (forget b₂) owner (fed_by w₂ c₃).kinds (sync_record w₂ b₂ k₂ marks_name bytes y₂ left₃ some a) in
          rw files₃ (x.0 ∙ rw (kept₂.0, is_line), x.1 ∙ kept₂.1)

      sync_kept : (ran w₂ c₃).accepted ≡ false → Kept b.files b₃.files
      sync_kept a =
          let x = steps_kept terms (forget b₂) owner (fed_by w₂ c₃).kinds (sync_none w₂ b₂ k₂ marks_name bytes y₂ left₃ some a) in
          rw files₃ (x.0 ∙ kept₂.0, x.1 ∙ kept₂.1)

-- ---- a setting

-- a further record that says nothing
first_more : (says : List ℕ → Option Mark) (l : List (List ℕ)) (x : List ℕ) → says x ≡ None → first_of says (l ++ (x ∷ [])) ≡ first_of says l
unfolding first_of or_next
first_more says [] x e = rw e
first_more says (y ∷ l) x e = ap (or_next (says y)) (first_more says l x e)

module _ (w : World) (b : Fine) (k : Keeps w b) (point name : List ℕ) where
  -- by whether it is accepted, what its calls leave of the files
  abbrev Leaves : Bool → List File → Type 0
  Leaves t fs = (t ≡ true → Lined (line_for w point name) b.files fs) × (t ≡ false → Kept b.files fs)

  abbrev Left : World → Bool → List Call → Type 0
  Left x t cs = Premise Distinct w cs → Leaves t (fine_of w cs b).files

  module _ (fresh : Bool) (e : ℕ × ℕ) (f : Found w point name fresh e) where
    abbrev bytes : List ℕ
    bytes = line_of point e.0 e.1

    is_for : line_for w point name ≡ bytes
    unfolding line_for on_ok
    is_for = rw f.ended

    few : length bytes < 486
    few = line_few _ point e.0 e.1 f.asked

    some : bytes ≢ []
    some = not_empty bytes (line_some point e.0 e.1)

    found_left : Left (after_set w (mark_of fresh bytes e.1 w.vol w.medium w.store)) (is_ok (mark_of fresh bytes e.1 w.vol w.medium w.store).call.answer) (line_calls fresh bytes w)
    unfolding Premise fine_of
    found_left =
        line_ways Left w fresh bytes e.1
        (λ a p. (λ h. absurd (false≢true h), λ _. opening_kept w b k w.medium.left fresh))
        (λ a r p. absurd (true≢false (sym (appends w b k fresh _ _ 0 bytes few some a p.0 p.1) ∙ r)))
        (λ a r p. (
          λ s. rw is_for (sync_lined w b k fresh _ _ _ bytes few some a p.0 p.1 p.2.0 p.2.1 s),
          λ s. sync_kept w b k fresh _ _ _ bytes few some a p.0 p.1 p.2.0 p.2.1 s,
        ))

  pub set_left : Left (after_set w (set_in w point name)) (is_ok (set_in w point name).call.answer) (setting_calls w point name)
  unfolding fine_of
  set_left = set_ways w point name Left (λ p. (λ h. absurd (false≢true h), λ _. (refl, refl))) found_left

  -- accepted, it came to its line, of a name that passes
  abbrev Lines : World → Bool → List Call → Type 0
  Lines x t cs = t ≡ true → (point_ok point ≡ true) × ((e : ℕ × ℕ) × (line_for w point name ≡ line_of point e.0 e.1))

  set_line : Lines (after_set w (set_in w point name)) (is_ok (set_in w point name).call.answer) (setting_calls w point name)
  set_line = set_ways w point name Lines (λ h. absurd (false≢true h)) (λ fresh e f _. ((asked_passed _ point refl f.asked).1, (e, is_for fresh e f)))

  -- a line of another name says nothing
  other_said : (q : List ℕ) → q ≢ point → is_ok (set_in w point name).call.answer ≡ true → says_of q (line_for w point name) ≡ None
  other_said q n a = let l = set_line a in rw l.1.1 (line_other point l.0 l.1.0.0 l.1.0.1 q (λ e. n (sym e)))

  -- on 01's book
  pub set_stands : Premise Distinct w (setting_calls w point name) → WhollyOrNot w point name (forget b) (forget (fine_of w (setting_calls w point name) b))
  set_stands p =
      let l = set_left p in
      record {
        there = λ a. (l.0 a).0;
        absent = λ a. (l.1 a).0;
        others = go (is_ok (set_in w point name).call.answer) refl l;
        points = λ q n. said q n (is_ok (set_in w point name).call.answer) refl l;
      }
    where
      go : (t : Bool) → is_ok (set_in w point name).call.answer ≡ t → Leaves (is_ok (set_in w point name).call.answer) (fine_of w (setting_calls w point name) b).files
          → without_name marks_name (fine_of w (setting_calls w point name) b).files ≡ without_name marks_name b.files
      go true q l = (l.0 q).1
      go false q l = (l.1 q).1

      said : (q : List ℕ) → q ≢ point → (t : Bool) → is_ok (set_in w point name).call.answer ≡ t
          → Leaves (is_ok (set_in w point name).call.answer) (fine_of w (setting_calls w point name) b).files
          → first_of (says_of q) (marks_in (fine_of w (setting_calls w point name) b).files) ≡ first_of (says_of q) (marks_in b.files)
      said q n true a l = ap (first_of (says_of q)) (l.0 a).0 ∙ first_more (says_of q) (marks_in b.files) (line_for w point name) (other_said q n a)
      said q n false a l = ap (first_of (says_of q)) (l.1 a).0

-- ---- after a history

calls_more : (acts : List Act) (a : Act) (w : World) → calls_in w (acts ++ (a ∷ [])) ≡ calls_in w acts ++ calls_of (after_acts w acts) a
unfolding calls_in after_acts
calls_more [] a w = append-nil (calls_of w a)
calls_more (x ∷ acts) a w = ap (λ (l : List Call). calls_of w x ++ l) (calls_more acts a (acted w x)) ∙ sym (append_assoc (calls_of w x) (calls_in (acted w x) acts) (calls_of (after_acts (acted w x) acts) a))

pub book_append : (cs ds : List Call) (w : World) (b : Book) → book_of w (cs ++ ds) b ≡ book_of (after w cs) ds (book_of w cs b)
unfolding book_of after
book_append [] ds w b = refl
book_append (c ∷ cs) ds w b = book_append cs ds (ran w c).world (book.written c (fed_by w c) b)

pub premise_append : (P : Skipped → Type 0) (cs ds : List Call) (w : World) → Premise P w (cs ++ ds) → Premise P w cs × Premise P (after w cs) ds
unfolding Premise after
premise_append P [] ds w p = (tt, p)
premise_append P (c ∷ cs) ds w p = let r = premise_append P cs ds (ran w c).world p.2 in ((p.0, p.1, r.0), r.1)

pub power_stop : PowerStopWeaker
unfolding calls_of
power_stop vol m size seed app acts left point name bytes a r clean p =
    let w : World = started (format_call vol m size seed) app in
    let cs : List Call = calls_in w acts in
    let v : World = after w cs in
    let u : World = lent left (after_acts w acts) in
    let ds : List Call = setting_calls u point name in
    let parts = premise_append Distinct cs ds w (subst (Premise Distinct w) (calls_more acts (set_point left point name) w) p) in
    let b : Fine = fine_of w cs (new_fine size) in
    let k : Keeps v b = history_keeps cs w (new_fine size) (started_fine vol m size seed app bytes a r clean) parts.0 in
    let same : lent left v ≡ u = ap (lent left) (sym (counts_as_calls w acts)) in
    let alike : Alike v u = ap (lent 0) same in
    let k' : Keeps u b = subst (λ (x : World). Keeps x b) same (keeps_medium (with_left left v.medium) k.readable k) in
    let before : forget b ≡ book_of w cs new_book = forget_history w cs (new_fine size) in
    let later : forget (fine_of u ds b) ≡ book_of w (calls_in w (acts ++ (set_point left point name ∷ []))) new_book
    = forget_history u ds b
    ∙ ap (book_of u ds) before
    ∙ sym (alike_book ds v u (book_of w cs new_book) alike)
    ∙ sym (book_append cs ds w new_book)
    ∙ ap (λ (l : List Call). book_of w l new_book) (sym (calls_more acts (set_point left point name) w)) in
    subst (WhollyOrNot u point name (book_of w cs new_book)) later
    (subst (λ (x : Book). WhollyOrNot u point name x (forget (fine_of u ds b))) before
    (set_stands u b k' point name (alike_premise Distinct ds v u alike parts.1)))

pub power_stop_literal : PowerStop
power_stop_literal vol m size seed app acts left point name bytes a r clean p =
    let w : World = started (format_call vol m size seed) app in
    power_stop vol m size seed app acts left point name bytes a r clean (weaker (calls_in w (acts ++ (set_point left point name ∷ []))) w p)
