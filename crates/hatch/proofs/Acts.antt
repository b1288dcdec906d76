-- An act counts as the calls that it makes: a setting leaves the world that its calls leave, and is accepted exactly if all three are; the acts that only
-- read leave the world as it was. So demand 3 holds of acts. Assumes nothing.
use Rattle.std.specs.Prelude.{Err, Ok, Result}
use Rattle.medium.specs.declared.Error.{Error}
use Prim.Native.Nat.{ℕ}
use mathlib.Core.Path.{◌≡◌, refl, ap, sym, subst, ◌∙◌}
use mathlib.Core.Logic.{◌↔◌}
use mathlib.Core.Bool.{Bool, true, false, false≢true}
use mathlib.Core.List.{List, [], ◌∷◌, ◌++◌}
use native.Mathlib.Omega.{arith}
use Rattle.le.specs.Choice.{pick}
use Rattle.le.proofs.Choices.{pick_keeps, pick_true, pick_false}
use Rattle.runs.specs.Split.{longer, split_at}
use Rattle.names.specs.Names.{begins_dot, some_dot, dotted}
use Rattle.marks.specs.Line.{marks_name, line_of}
use Rattle.medium.specs.declared.Medium.{Medium}
use Rattle.medium.specs.Refusal.{Answer, ok, refused, number_of, on_done, on_ok}
use Rattle.medium.proofs.Laws.{on_done_keeps, on_ok_keeps}
use Rattle.handles.specs.declared.Store.{Store}
use Rattle.table.proofs.Decides.{on_chain_keeps}
use Rattle.directory.proofs.Decides.{on_found_keeps}
use Rattle.reader.specs.declared.Upto.{Upto}
use Rattle.reader.specs.Upto.{UptoCall, below_call}
use Rattle.append.specs.Calls.{AppCall}
use Rattle.store.specs.declared.ReaderAnswer.{ReaderAnswer}
use Rattle.store.specs.Reading.{reader_of_id_call}
use Rattle.store.specs.Writing.{format_call}
use Rattle.store.specs.Asked.{asked_name}
use Rattle.store.proofs.Opens.{open_still}
use Rattle.points.specs.Look.{Place, absent, unset, line, asked_point, on_place, look_of, end_of}
use Rattle.points.specs.Set.{SetCall, not_set, set_by, open_of, then_append, then_sync, mark_of, set_from, set_call}
use Rattle.points.specs.Reading.{PointCall, no_point, upto_of, point_call}
use Rattle.power.specs.Calls.{earlier, Call, create, open_append, append, sync}
use Rattle.power.specs.Book.{new_book}
use Rattle.power.specs.History.{World, Ran, is_ok, if_ok, ran_create, ran, after, book_of}
use Rattle.power.specs.Claim.{Holds, started}
use Rattle.power.proofs.History.{no_batch_lost, weaker}
use Rattle.power.proofs.Dots.{create_either, open_either}
use Rattle.hatch.specs.Acts.{Act, call, set_point, read_point, next_upto, with_medium, lent, set_in, after_set, acted, after_acts, then_calls, opening_call, line_calls, from_end, setting_calls, calls_of, calls_in}
use Rattle.hatch.specs.Claim.{Alike, CountsAsCalls, accepts, SetByCalls, Demand3Acts, Demand3ActsWeaker}
use Rattle.hatch.proofs.Alike.{alike_after}

-- ---- the opening

module _ (w : World) where
  abbrev opener : Bool → Call
  opener fresh = opening_call fresh w.medium.left

  abbrev begun : Bool → AppCall
  begun fresh = open_of fresh w.vol w.medium w.store

  opened_ran : (fresh : Bool) → ran w (opener fresh) ≡ ran_create w (begun fresh)
  unfolding ran opening_call open_of pick
  opened_ran true = refl
  opened_ran false =
      let s = open_still w.vol w.medium w.store marks_name false [] in
      rw (s.0, s.1)

-- S-5: it is the same by the rules from before that request
marks_plain : dotted marks_name ≡ false
unfolding pick longer split_at begins_dot some_dot dotted
marks_plain = refl

pub opening_either : (w : World) (fresh : Bool) (left : ℕ)
    → ran w (opening_call fresh left) ≡ ran w (pick fresh (create earlier left marks_name false []) (open_append earlier left marks_name false []))
unfolding opening_call pick
opening_either w true left = create_either w left marks_name false [] marks_plain
opening_either w false left = open_either w left marks_name false [] marks_plain

-- ---- the three calls of a line, and what they leave

module _ (P : World → Bool → List Call → Type 0) where
  moved : {x y : World} {s t : Bool} {k l : List Call} → x ≡ y → s ≡ t → k ≡ l → P x s k → P y t l
  moved {x} {y} {s} {t} {k} {l} p q r h = subst (λ (u : World). P u t l) p (subst (λ (b : Bool). P x b l) q (subst (P x s) r h))

  module _ (w : World) (fresh : Bool) (bytes : List ℕ) (number : ℕ) where
    abbrev first : Call
    first = opening_call fresh w.medium.left

    abbrev w₁ : World
    w₁ = (ran w first).world

    abbrev second : Call
    second = append w₁.medium.left bytes

    abbrev w₂ : World
    w₂ = (ran w₁ second).world

    abbrev third : Call
    third = sync w₂.medium.left

    abbrev marked : SetCall
    marked = mark_of fresh bytes number w.vol w.medium w.store

    abbrev o : AppCall
    o = open_of fresh w.vol w.medium w.store

    line_one : (ran w first).accepted ≡ false → line_calls fresh bytes w ≡ first ∷ []
    unfolding line_calls then_calls
    line_one e = rw (pick_false _ _ e)

    line_two : (ran w first).accepted ≡ true → (ran w₁ second).accepted ≡ false → line_calls fresh bytes w ≡ first ∷ second ∷ []
    unfolding line_calls then_calls
    line_two e f = ap (λ (l : List Call). first ∷ l) (pick_true _ _ e ∙ ap (λ (l : List Call). second ∷ l) (pick_false _ _ f))

    line_three : (ran w first).accepted ≡ true → (ran w₁ second).accepted ≡ true → line_calls fresh bytes w ≡ first ∷ second ∷ third ∷ []
    unfolding line_calls then_calls
    line_three e f = ap (λ (l : List Call). first ∷ l) (pick_true _ _ e ∙ ap (λ (l : List Call). second ∷ l) (pick_true _ _ f))

    module _ (unopened : (ran w first).accepted ≡ false → P w₁ false (first ∷ []))
        (unlined : (ran w first).accepted ≡ true → (ran w₁ second).accepted ≡ false → P w₂ false (first ∷ second ∷ []))
        (lined : (ran w first).accepted ≡ true → (ran w₁ second).accepted ≡ true → P (ran w₂ third).world (ran w₂ third).accepted (first ∷ second ∷ third ∷ [])) where
      abbrev Goal : Type 0
      Goal = P (after_set w marked) (is_ok marked.call.answer) (line_calls fresh bytes w)

      opens : (ran w first).accepted ≡ is_ok o.call.answer
      opens = ap (λ (r : Ran). r.accepted) (opened_ran w fresh)

      -- the opening is refused
      refused_first : (n : ℕ) → o.call.answer ≡ refused n → Goal
      unfolding mark_of on_ok pick if_ok
      refused_first n q =
          let e : (ran w first).accepted ≡ false = opens ∙ ap is_ok q in
          let is : marked ≡ set_by false number o = rw q refl in
          moved
          (ap (λ (r : Ran). r.world) (opened_ran w fresh) ∙ rw (is, q))
          (rw (is, q))
          (sym (line_one e)) (unopened e)

      -- it is accepted
      module _ (t : Unit {0}) (q : o.call.answer ≡ ok t) where
        abbrev x : World
        x = record { vol = o.vol; store = o.call.store; appender = o.call.appender; medium = o.call.medium }

        is_x : w₁ ≡ x
        unfolding if_ok
        is_x = ap (λ (r : Ran). r.world) (opened_ran w fresh) ∙ rw q

        accepted_first : (ran w first).accepted ≡ true
        accepted_first = opens ∙ ap is_ok q

        abbrev a : AppCall
        a = then_append bytes o

        abbrev y : World
        y = record { vol = a.vol; store = a.call.store; appender = a.call.appender; medium = a.call.medium }

        is_y : w₂ ≡ y
        unfolding ran
        is_y = ap (λ (u : World). (ran u (append u.medium.left bytes)).world) is_x

        appends : (ran w₁ second).accepted ≡ is_ok a.call.answer
        unfolding ran
        appends = ap (λ (u : World). (ran u (append u.medium.left bytes)).accepted) is_x

        second_ways : (r : Answer (Unit {0})) → a.call.answer ≡ r → Goal
        unfolding mark_of on_ok pick ran
        second_ways (refused n) z =
            let e : (ran w₁ second).accepted ≡ false = appends ∙ ap is_ok z in
            let is : marked ≡ set_by true number a = rw (q, z) refl in
            moved (is_y ∙ rw is) (rw (is, z)) (sym (line_two accepted_first e)) (unlined accepted_first e)
        second_ways (ok s) z =
            let e : (ran w₁ second).accepted ≡ true = appends ∙ ap is_ok z in
            let is : marked ≡ set_by true number (then_sync a) = rw (q, z) refl in
            moved
            (ap (λ (u : World). (ran u (sync u.medium.left)).world) is_y ∙ rw is)
            (ap (λ (u : World). (ran u (sync u.medium.left)).accepted) is_y ∙ rw is)
            (sym (line_three accepted_first e)) (lined accepted_first e)

      first_ways : (r : Answer (Unit {0})) → o.call.answer ≡ r → Goal
      first_ways (refused n) q = refused_first n q
      first_ways (ok t) q = second_ways t q (a t q).call.answer refl

      pub line_ways : Goal
      line_ways = first_ways o.call.answer refl

-- ---- a setting

-- what it has found when it comes to open `MARKS`
pub record Found (w : World) (point name : List ℕ) (fresh : Bool) (e : ℕ × ℕ) : Type 0 where
  pub asked : asked_point (asked_name w.vol w.store name) point ≡ Ok tt
  pub looked : look_of w.vol w.medium w.store point ≡ ok (pick fresh absent unset)
  pub ended : end_of w.vol w.medium w.store name ≡ ok e

-- it is refused with nothing done, or it comes to the calls of its line
module _ (w : World) (point name : List ℕ) (P : World → Bool → List Call → Type 0) where
  abbrev By : SetCall → List Call → Type 0
  By c cs = P (after_set w c) (is_ok c.call.answer) cs

  module _ (none : P w false []) (go_on : (fresh : Bool) (e : ℕ × ℕ) → Found w point name fresh e
      → By (mark_of fresh (line_of point e.0 e.1) e.1 w.vol w.medium w.store) (line_calls fresh (line_of point e.0 e.1) w)) where
    not_set_lem : (n : ℕ) → By (not_set w.vol w.medium w.store n) []
    unfolding pick
    not_set_lem n = none

    module _ (q : asked_point (asked_name w.vol w.store name) point ≡ Ok tt) where
      from_end_lem : (fresh : Bool) → look_of w.vol w.medium w.store point ≡ ok (pick fresh absent unset)
          → By (set_from fresh w.vol w.medium w.store point name) (from_end fresh w point name)
      unfolding set_from from_end on_ok
      from_end_lem fresh l = go (end_of w.vol w.medium w.store name) refl
        where
          go : (a : Answer (ℕ × ℕ)) → end_of w.vol w.medium w.store name ≡ a
              → By (set_from fresh w.vol w.medium w.store point name) (from_end fresh w point name)
          go (ok e) r = rw r (go_on fresh e (record { asked = q; looked = l; ended = r }))
          go (refused n) r = rw r (not_set_lem n)

      looked_ways : (l : Answer Place) → look_of w.vol w.medium w.store point ≡ l → By (set_in w point name) (setting_calls w point name)
      unfolding set_call setting_calls on_done on_ok on_place pick
      looked_ways (ok absent) r = rw (q, r) (from_end_lem true r)
      looked_ways (ok unset) r = rw (q, r) (from_end_lem false r)
      looked_ways (ok (line id n)) r = rw (q, r) (not_set_lem 14)
      looked_ways (refused n) r = rw (q, r) (not_set_lem n)

    asked_ways : (o : Result Unit Error) → asked_point (asked_name w.vol w.store name) point ≡ o → By (set_in w point name) (setting_calls w point name)
    unfolding set_call setting_calls on_done
    asked_ways (Ok tt) q = looked_ways q (look_of w.vol w.medium w.store point) refl
    asked_ways (Err e) q = rw q (not_set_lem (number_of e))

    pub set_ways : By (set_in w point name) (setting_calls w point name)
    set_ways = asked_ways (asked_point (asked_name w.vol w.store name) point) refl

-- ---- the world, and whether it is accepted

-- answers that are not all of three
too_few : {A : Type 0} → ◌≡◌ {A = List Bool} [] (true ∷ true ∷ true ∷ []) → A
too_few e = absurd (let z : ◌≡◌ {A = ℕ} 0 1 = cc in omega (arith, z))

at_first : (r : Bool) (l : List Bool) → r ∷ l ≡ true ∷ true ∷ true ∷ [] → r ≡ true
at_first r l e = cc

at_second : (r s : Bool) (l : List Bool) → r ∷ s ∷ l ≡ true ∷ true ∷ true ∷ [] → s ≡ true
at_second r s l e = cc

at_third : (r s t : Bool) → ◌≡◌ {A = List Bool} (r ∷ s ∷ t ∷ []) (true ∷ true ∷ true ∷ []) → t ≡ true
at_third r s t e = cc

-- what a setting leaves is what its calls leave, and all three are accepted exactly if it is
module _ (w : World) where
  abbrev Counts : World → Bool → List Call → Type 0
  Counts x t cs = (x ≡ after w cs) × (t ≡ true ↔ accepts w cs ≡ true ∷ true ∷ true ∷ [])

  set_counts : (point name : List ℕ) → Counts (after_set w (set_in w point name)) (is_ok (set_in w point name).call.answer) (setting_calls w point name)
  unfolding after accepts
  set_counts point name =
      set_ways w point name Counts (refl, (λ h. absurd (false≢true h), λ h. too_few h))
      (λ fresh e f. line_ways Counts w fresh (line_of point e.0 e.1) e.1
      (λ a. (refl, (λ h. absurd (false≢true h), λ h. absurd (false≢true (sym a ∙ at_first _ _ h)))))
      (λ a b. (refl, (λ h. absurd (false≢true h), λ h. absurd (false≢true (sym b ∙ at_second _ _ _ h)))))
      (λ a b. (refl, (λ h. rw (a, b, h), λ h. at_third _ _ _ h))))

pub set_by_calls : SetByCalls
set_by_calls w point name = (set_counts w point name).1

-- ---- acts

-- the calls that only read hand the medium record back
of_id_medium : (vol : List ℕ) (m : Medium) (st : Store) (id : ℕ) → (reader_of_id_call vol m st id).medium ≡ m
unfolding reader_of_id_call
of_id_medium vol m st id =
    on_done_keeps Same _ _ _
    (λ _. on_found_keeps Same _ _ _ (λ e _. refl) (λ slot i _. on_chain_keeps Same _ _ _ (λ e. refl) (λ p _. refl)))
    (λ _ _. refl)
  where
    Same : ReaderAnswer → Type 0
    Same r = r.medium ≡ m

pub on_place_keeps : {A : Type 0} (P : A → Type 0) (l : Place) {a b : A} {f : ℕ → ℕ → A} → P a → P b → ((id n : ℕ) → P (f id n)) → P (on_place l a b f)
unfolding on_place
on_place_keeps P absent p q r = p
on_place_keeps P unset p q r = q
on_place_keeps P (line id n) p q r = r id n

point_medium : (vol : List ℕ) (m : Medium) (st : Store) (point : List ℕ) → (point_call vol m st point).medium ≡ m
unfolding point_call
point_medium vol m st point =
    on_done_keeps Same _ _ _
    (λ _. on_ok_keeps Same _ (λ l. at l) (λ n. refl))
    (λ e _. refl)
  where
    Same : PointCall → Type 0
    Same c = c.medium ≡ m

    at : (l : Place) → Same (on_place l (no_point m 9) (no_point m 9) (λ id number. upto_of number (reader_of_id_call vol m st id)))
    at l = on_place_keeps Same l refl refl (λ id number. of_id_medium vol m st id)

below_medium : (vol : List ℕ) (m : Medium) (st : Store) (u : Upto) (out : List ℕ) → (below_call vol m st u out).medium ≡ m
unfolding below_call
below_medium vol m st u out =
    pick_keeps (λ (c : UptoCall). c.medium ≡ m) _ _ _ refl (on_done_keeps (λ (c : UptoCall). c.medium ≡ m) _ _ _ (λ _. refl) (λ _ _. refl))

pub act_counts : (w : World) (a : Act) → Alike (acted w a) (after w (calls_of w a))
unfolding acted calls_of after
act_counts w (call c) = refl
act_counts w (set_point left point name) = ap (lent 0) (set_counts (lent left w) point name).0 ∙ alike_after (setting_calls (lent left w) point name) (lent left w) w refl
act_counts w (read_point point) = ap (λ (m : Medium). lent 0 (with_medium m w)) (point_medium w.vol w.medium w.store point)
act_counts w (next_upto u out) = ap (λ (m : Medium). lent 0 (with_medium m w)) (below_medium w.vol w.medium w.store u out)

pub after_append : (cs ds : List Call) (w : World) → after w (cs ++ ds) ≡ after (after w cs) ds
unfolding after
after_append [] ds w = refl
after_append (c ∷ cs) ds w = after_append cs ds (ran w c).world

pub counts_as_calls : CountsAsCalls
unfolding after_acts calls_in after
counts_as_calls w [] = refl
counts_as_calls w (a ∷ acts) =
    counts_as_calls (acted w a) acts
    ∙ alike_after (calls_in (acted w a) acts) (acted w a) (after w (calls_of w a)) (act_counts w a)
    ∙ ap (lent 0) (sym (after_append (calls_of w a) (calls_in (acted w a) acts) w))

-- ---- demand 3

pub no_batch_lost_acts : Demand3ActsWeaker
no_batch_lost_acts vol m size seed app acts bytes a r clean p =
    let w : World = started (format_call vol m size seed) app in
    let same : (after w (calls_in w acts)).vol ≡ (after_acts w acts).vol = sym (ap (λ (u : World). u.vol) (counts_as_calls w acts)) in
    subst (λ (v : List ℕ). Holds v (book_of w (calls_in w acts) new_book)) same (no_batch_lost vol m size seed app (calls_in w acts) bytes a r clean p)

pub no_batch_lost_acts_literal : Demand3Acts
no_batch_lost_acts_literal vol m size seed app acts bytes a r clean p =
    let w : World = started (format_call vol m size seed) app in
    no_batch_lost_acts vol m size seed app acts bytes a r clean (weaker (calls_in w acts) w p)
