-- S-1: the pins beside the book through a history of calls. They are forgotten where a call leaves no file of the name that holds their lines. While no
-- record but a setting's goes to that file, it holds their lines, and each pin's file, if it is there, gives below the pin's number what the pin has.
-- Assumes nothing.
use Rattle.std.specs.Prelude.{Err, Ok, Result}
use Rattle.medium.specs.declared.Error.{Error}
use Prim.Native.Nat.{ℕ, zero, suc}
use mathlib.Core.Path.{◌≡◌, refl, ap, sym, subst, ◌∙◌}
use mathlib.Core.Logic.{◌≢◌}
use mathlib.Core.Bool.{Bool, true, false, ◌||◌, true≢false, false≢true}
use mathlib.Core.List.Memᴰ
use mathlib.Core.List.{List, [], ◌∷◌, map}
use Rattle.le.specs.Choice.{pick}
use Rattle.le.proofs.Choices.{pick_keeps_by}
use Rattle.runs.specs.Run.{same_bytes}
use Rattle.runs.proofs.Tests.{same_true, same_self}
use Rattle.medium.specs.declared.Medium.{Medium}
use Rattle.medium.specs.Refusal.{outcome_of}
use Rattle.medium.specs.Sector.{Readable}
use Rattle.medium.proofs.Laws.{on_done_keeps}
use Rattle.handles.specs.declared.Store.{Store}
use Rattle.directory.specs.Scan.{on_looked}
use Rattle.plan.specs.Copy.{Kind, formatted, rolled_over, deleted, deleted_oldest, created, extended, recorded, Step, Out, steps_of, Distinct}
use Rattle.format.specs.Format.{format_of}
use Rattle.append.specs.Flush.{AppOut}
use Rattle.files.specs.declared.Rollover.{Rollover}
use Rattle.files.specs.Create.{Next, round_out, create_from}
use Rattle.folds.proofs.Named.{look_view}
use Rattle.layout.specs.Segments.{Segment}
use Rattle.reading.specs.GivesTo.{GivesTo}
use Rattle.reading.specs.Below.{end_number}
use Rattle.store.specs.Reading.{reader_call}
use Rattle.store.specs.Writing.{delete_call, format_call}
use Rattle.power.specs.Calls.{Rules, Call, mount, format, create, open_append, append, sync, delete, delete_oldest, query}
use Rattle.power.specs.Book as book
use Rattle.power.specs.Book.{File, Book, Terms, terms_of}
use Rattle.power.specs.History.{World, with_left, is_ok, ran, fed_by, Premise}
use Rattle.power.specs.Points.{Pin, has_name, forgotten, pins_after, Missed, Spared, SparedBy, SparedAll, begins}
use Rattle.power.proofs.Fine.{Fine, forget, written, fine_of, forget_written}
use Rattle.power.proofs.Whole.{Whole, Keeps}
use Rattle.power.proofs.Steps.{kinds_of}
use Rattle.power.proofs.Checks.{inv_checked}
use Rattle.power.proofs.Members.{Mem}
use Rattle.power.proofs.Shown.{each_ends}
use Rattle.power.proofs.Formatting.{made_book}
use Rattle.power.proofs.Rules.{create_by_lem}
use Rattle.power.proofs.Grows.{grows_refl, Grown, call_grown}
use Rattle.power.proofs.History.{fine_keeps}
use Rattle.power.proofs.Pins.{file_known, file_fit, file_joined}
use Rattle.power.proofs.Marks.{Pinned, pinned_grown, Holding, Quiet, QuietAll, holding_written}

-- ---- a file of a name

pub has_some : (name : List ℕ) (fs : List File) → has_name name fs ≡ true → (f : File) × Mem f fs × (f.name ≡ name)
unfolding has_name
has_some name [] h = absurd (false≢true h)
has_some name (f ∷ fs) h = go (λ k. has_some name fs k) (same_bytes name f.name) refl h
  where
    go : (has_name name fs ≡ true → (g : File) × Mem g fs × (g.name ≡ name)) → (t : Bool) → same_bytes name f.name ≡ t → (t || has_name name fs) ≡ true
        → (g : File) × Mem g (f ∷ fs) × (g.name ≡ name)
    go ih true e k = (f, Memᴰ.head refl, sym (same_true name f.name e))
    go ih false e k = let o = ih k in (o.0, Memᴰ.tail o.1, o.2)

pub has_none : (name : List ℕ) (fs : List File) → has_name name fs ≡ false → (f : File) → Mem f fs → f.name ≢ name
unfolding has_name
has_none name [] h f m e = elim m [ ]
has_none name (x ∷ fs) h f (Memᴰ.head q) e =
    let s : same_bytes name x.name ≡ true = ap (same_bytes name) (ap (λ (y : File). y.name) (sym q) ∙ e) ∙ same_self name in
    absurd (true≢false (sym (ap (λ (t : Bool). t || has_name name fs) s) ∙ h))
has_none name (x ∷ fs) h f (Memᴰ.tail m) e = has_none name fs (go (same_bytes name x.name) h) f m e
  where
    go : (t : Bool) → (t || has_name name fs) ≡ false → has_name name fs ≡ false
    go true k = absurd (true≢false k)
    go false k = k

pub has_true : (name : List ℕ) (fs : List File) (f : File) → Mem f fs → f.name ≡ name → has_name name fs ≡ true
has_true name fs f mem e = go (has_name name fs) refl
  where
    go : (t : Bool) → has_name name fs ≡ t → t ≡ true
    go true q = refl
    go false q = absurd (has_none name fs q f mem e)

differs : (a b : List ℕ) → same_bytes a b ≡ false → b ≢ a
differs a b h e = true≢false (sym (ap (same_bytes a) e ∙ same_self a) ∙ h)

-- ---- which calls make a file

-- create of a name that is there makes no step
module _ (w : World) (b : Fine) (k : Keeps w b) (m : Medium) (r : Readable w.vol m) (f : File) (mem : Mem f b.files) where
  known_round : (over : Rollover) (next : Next) → (round_out f.name over next w.vol m w.store).steps ≡ []
  unfolding round_out on_looked
  known_round over next =
      let l = look_view w.vol m w.store (inv_checked m k.whole.inv r) k.layout k.whole.good f.name in
      let o = k.whole.ties.from f mem in
      rw l.1.answer
      (pick_keeps_by (λ (x : AppOut). x.steps ≡ []) l.0.exists _ _ (λ e. refl) (λ e. absurd (l.1.new e o.0 f.id o.1 o.2)))

  known_from : (n : ℕ) (over : Rollover) → (create_from n f.name over w.vol m w.store).steps ≡ []
  unfolding create_from
  known_from zero over = refl
  known_from (suc n) over = known_round over (create_from n f.name over)

pub create_known : (rules : Rules) (w : World) (b : Fine) → Keeps w b → (f : File) → Mem f b.files → (left : ℕ) (rolls : Bool) (dir : List ℕ) → (ran w (create rules left f.name rolls dir)).steps ≡ []
unfolding ran
create_known rules w b k f mem left rolls dir =
    rw (create_by_lem w.vol w.store f.name rolls dir rules (with_left left w.medium))
    (on_done_keeps (λ (x : AppOut). x.steps ≡ []) _ _ _ (λ d. known_from w b k (with_left left w.medium) k.readable f mem 2 _) (λ e d. refl))

-- where no file of the name is made, or nothing is to be held
module _ (name : List ℕ) (l : List (List ℕ)) (t : Terms) where
  quiet_one : (k : Kind) (b : Book) → (t.name ≡ name → l ≡ []) → Missed name k b → Quiet name l t k b
  unfolding Missed Quiet
  quiet_one formatted b h q = tt
  quiet_one rolled_over b h q = tt
  quiet_one deleted_oldest b h q = tt
  quiet_one deleted b h q = tt
  quiet_one created b h q = h
  quiet_one extended b h q = tt
  quiet_one recorded b h q = q

  quiet_named : (ks : List Kind) (b : Book) → (t.name ≡ name → l ≡ []) → Spared name t ks b → QuietAll name l t ks b
  unfolding Spared QuietAll
  quiet_named [] b h q = tt
  quiet_named (k ∷ ks) b h q = (quiet_one k b h q.0, quiet_named ks (book.entered t k b) h q.1)

  quiet_empty : (ks : List Kind) (b : Book) → ks ≡ [] → QuietAll name l t ks b
  unfolding QuietAll
  quiet_empty ks b e = rw e tt

  -- delete only deletes
  quiet_delete : (o : Out) (b : Book) → QuietAll name l t (kinds_of (steps_of deleted o)) b
  unfolding steps_of QuietAll Quiet
  quiet_delete o b = on_done_keeps (λ (x : List Step). QuietAll name l t (kinds_of x) b) o.ans.outcome _ _ (λ d. (tt, tt)) (λ e d. tt)

module _ (name : List ℕ) (some : name ≢ []) (l : List (List ℕ)) (w : World) (b : Fine) (k : Keeps w b) (none : has_name name b.files ≡ false → l ≡ []) where
  abbrev QuietBy : Call → Type 0
  QuietBy c = QuietAll name l (terms_of c (fed_by w c).open_file (forget b)) (fed_by w c).kinds (book.before_steps c (forget b))

  unnamed : {x : List ℕ} → x ≡ [] → x ≡ name → l ≡ []
  unnamed e q = absurd (some (sym q ∙ e))

  create_quiet : (rules : Rules) (left : ℕ) (n : List ℕ) (rolls : Bool) (dir : List ℕ) → SparedBy name w (create rules left n rolls dir) (forget b) → QuietBy (create rules left n rolls dir)
  unfolding terms_of fed_by
  create_quiet rules left n rolls dir q = go (has_name name b.files) refl (same_bytes name n) refl
    where
      go : (t : Bool) → has_name name b.files ≡ t → (u : Bool) → same_bytes name n ≡ u → QuietBy (create rules left n rolls dir)
      go false e u f = quiet_named name l _ _ _ (λ _. none e) q
      go true e false f = quiet_named name l _ _ _ (λ x. absurd (differs name n f x)) q
      go true e true f =
          let o = has_some name b.files e in
          let same : o.0.name ≡ n = o.2 ∙ same_true name n f in
          let z : (ran w (create rules left n rolls dir)).steps ≡ [] = subst (λ (x : List ℕ). (ran w (create rules left x rolls dir)).steps ≡ []) same (create_known rules w b k o.0 o.1 left rolls dir) in
          quiet_empty name l _ _ _ (ap kinds_of z)

  delete_quiet : (left : ℕ) (n : List ℕ) → QuietBy (delete left n)
  unfolding fed_by ran delete_call
  delete_quiet left n = quiet_delete name l _ _ _

  call_quiet : (c : Call) → SparedBy name w c (forget b) → QuietBy c
  unfolding terms_of
  call_quiet (create rules left n rolls dir) q = create_quiet rules left n rolls dir q
  call_quiet (delete left n) q = delete_quiet left n
  call_quiet (append left bytes) q = quiet_named name l _ _ _ (unnamed refl) q
  call_quiet (sync left) q = quiet_named name l _ _ _ (unnamed refl) q
  call_quiet (delete_oldest left dir) q = quiet_named name l _ _ _ (unnamed refl) q
  call_quiet (mount m) q = quiet_named name l _ _ _ (unnamed refl) q
  call_quiet (format m size seed) q = quiet_named name l _ _ _ (unnamed refl) q
  call_quiet (open_append rules left n rolls dir) q = quiet_named name l _ _ _ (unnamed refl) q
  call_quiet (query x) q = quiet_named name l _ _ _ (unnamed refl) q

-- ---- an accepted format leaves no file

format_accepted : (m : Medium) (size seed : ℕ) (w : World) → (ran w (format m size seed)).accepted ≡ true → (format_of size seed w.vol m).ans.outcome ≡ Ok tt
unfolding ran format_call
format_accepted m size seed w = go (format_of size seed w.vol m).ans.outcome
  where
    go : (o : Result Unit Error) → is_ok (outcome_of o) ≡ true → o ≡ Ok tt
    go (Ok tt) h = refl
    go (Err x) h = absurd (false≢true h)

begins_empty : (c : Call) (w : World) (b : Fine) → begins c (ran w c).accepted ≡ true → (written c (fed_by w c) b).files ≡ []
unfolding begins
begins_empty (mount m) w b e = absurd (false≢true e)
begins_empty (create rules left name rolls dir) w b e = absurd (false≢true e)
begins_empty (open_append rules left name rolls dir) w b e = absurd (false≢true e)
begins_empty (append left bytes) w b e = absurd (false≢true e)
begins_empty (sync left) w b e = absurd (false≢true e)
begins_empty (delete left name) w b e = absurd (false≢true e)
begins_empty (delete_oldest left dir) w b e = absurd (false≢true e)
begins_empty (query q) w b e = absurd (false≢true e)
begins_empty (format m size seed) w b e = ap (λ (x : Fine). x.files) (made_book m size seed w b (format_accepted m size seed w e))

-- ---- the pins and the file of their lines

abbrev pub Each : Fine → List Pin → Type 0
Each b [] = Unit {0}
Each b (q ∷ qs) = Pinned b q × Each b qs

pub each_grown : {b c : Fine} → Grown b c → (qs : List Pin) → Each b qs → Each c qs
each_grown g [] h = tt
each_grown g (q ∷ qs) h = (pinned_grown g h.0, each_grown g qs h.1)

module _ (name : List ℕ) (some : name ≢ []) (line_of : Pin → List ℕ) where
  pub record Points (b : Fine) (pins : List Pin) : Type 0 where
    pub each : Each b pins
    pub lines : Holding name (map line_of pins) b.files
    pub none : has_name name b.files ≡ false → pins ≡ []

  settled : (b : Fine) (pins : List Pin) (t : Bool) → has_name name b.files ≡ t → (t ≡ true → Each b pins × Holding name (map line_of pins) b.files)
      → Points b (forgotten name b.files pins)
  unfolding forgotten pick
  settled b pins true e h = rw e (record { each = (h refl).0; lines = (h refl).1; none = λ x. absurd (true≢false (sym e ∙ x)) })
  settled b pins false e h = rw e (record { each = tt; lines = λ f m q. absurd (has_none name b.files e f m q); none = λ _. refl })

  -- a call
  pub call_points : (c : Call) (w : World) (b : Fine) → Keeps w b → (pins : List Pin) → Points b pins → SparedBy name w c (forget b)
      → Points (written c (fed_by w c) b) (forgotten name (written c (fed_by w c) b).files pins)
  unfolding fed_by
  call_points c w b k pins p q = go (begins c (ran w c).accepted) refl
    where
      b' : Fine
      b' = written c (fed_by w c) b

      empty : (files : List File) → files ≡ [] → has_name name files ≡ true → ⊥
      empty files e h = let o = has_some name files h in Memᴰ.not-nil (subst (Mem o.0) e o.1)

      go : (t : Bool) → begins c (ran w c).accepted ≡ t → Points b' (forgotten name b'.files pins)
      go true e = settled b' pins (has_name name b'.files) refl (λ h. absurd (empty b'.files (begins_empty c w b e) h))
      go false e =
          let held : Holding name (map line_of pins) (book.written c (fed_by w c) (forget b)).files
          = holding_written name (map line_of pins) c (fed_by w c) (forget b) p.lines
          (call_quiet name some (map line_of pins) w b k (λ x. ap (map line_of) (p.none x)) c q) in
          settled b' pins (has_name name b'.files) refl
          (λ h. (each_grown (call_grown c (fed_by w c) b e) pins p.each, subst (Holding name (map line_of pins)) (ap (λ (x : Book). x.files) (sym (forget_written c (fed_by w c) b))) held))

  -- a list of calls
  pub history_points : (cs : List Call) (w : World) (b : Fine) → Keeps w b → Premise Distinct w cs → SparedAll name w cs (forget b) → (pins : List Pin) → Points b pins
      → Points (fine_of w cs b) (pins_after name w cs (forget b) pins)
  unfolding pins_after SparedAll fine_of Premise
  history_points [] w b k p s pins q = q
  history_points (c ∷ cs) w b k p s pins q =
      let b' : Fine = written c (fed_by w c) b in
      let same : forget b' ≡ book.written c (fed_by w c) (forget b) = forget_written c (fed_by w c) b in
      subst (λ (x : Book). Points (fine_of w (c ∷ cs) b) (pins_after name (ran w c).world cs x (forgotten name x.files pins))) same
      (history_points cs (ran w c).world b' (fine_keeps c w b k p.0 p.1) p.2 (subst (SparedAll name (ran w c).world cs) (sym same) s.1) _ (call_points c w b k pins q s.0))

-- ---- a pin made: the file's id, the number at which its reader finds the end, and the payloads that it gives

abbrev pub pin_of : List ℕ → Fine → File → Pin
pin_of point b f = record { name = point; id = f.id; number = end_number b.size (b.parts f.id); payloads = f.payloads }

module _ (point : List ℕ) {vol : List ℕ} {st : Store} {G : ℕ → List Segment} {b : Fine} (w : Whole vol st G b) (f : File) (mem : Mem f b.files) where
  pub pin_new : Pinned b (pin_of point b f)
  pin_new =
      record {
        parts = b.parts f.id;
        given = file_known w f mem;
        fit = file_fit w f mem;
        number = refl;
        payloads = file_joined w f mem;
        grows = grows_refl (b.parts f.id);
      }

  pub pin_found : (m : Medium) → Readable vol m → GivesTo vol m st (reader_call vol m st f.name).reader (pin_of point b f).payloads (pin_of point b f).number
  pin_found m r = each_ends vol m st G b w r f mem
