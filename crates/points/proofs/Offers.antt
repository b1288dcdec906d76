-- The calls, by the ways that they go: a law for each return, over plain values. Assumes nothing.
use Rattle.std.specs.Prelude.{Err, Ok, Result, Some}
use Rattle.std.specs.Result.{result_and}
use Prim.Native.Nat.{ℕ, ◌+◌, ◌≤◌}
use mathlib.Core.Path.{◌≡◌, refl, sym, ap, ◌∙◌}
use mathlib.Core.Bool.{Bool, true, false, ◌&&◌}
use mathlib.Core.List.{List, []}
use native.Mathlib.Nat.{zero-add}
use native.Mathlib.Omega.{arith}
use lib.ListN.{length, take}
use Rattle.le.specs.Choice.{pick}
use Rattle.le.specs.Part.{part, zeros}
use Rattle.le.proofs.Parts.{length_zeros, length_over, part_over}
use Rattle.le.proofs.Bools.{and_true}
use borrow.Author.Tests.{leb-true}
use lib.Dec.{leb}
use Rattle.names.specs.Names.{name_ok, point_ok, every_plain}
use Rattle.decimal.specs.Decimal.{Put}
use Rattle.marks.specs.Line.{marks_name, line_of}
use Rattle.medium.specs.declared.Error.{Error}
use Rattle.medium.specs.declared.Error.TheVariants.{Name, Handle, Point}
use Rattle.medium.specs.declared.Medium.{Medium}
use Rattle.medium.specs.Refusal.{refused, number_of, on_done, on_ok, outcome_of}
use Rattle.medium.specs.Sector.{sectors_of}
use Rattle.medium.proofs.Laws.{not_done}
use Rattle.handles.specs.declared.Store.{Store}
use Rattle.handles.specs.Handles.{store_ok}
use Rattle.append.specs.declared.Appender.{Appender}
use Rattle.append.specs.declared.Handed.{Handed}
use Rattle.append.specs.Appender.{no_appender}
use Rattle.append.specs.Calls.{AppTold, app_answer, append_call, sync_call}
use Rattle.store.specs.declared.ReaderAnswer.{ReaderAnswer}
use Rattle.store.specs.Asked.{asked_of}
use Rattle.store.specs.Opening.{create_call, open_call}
use Rattle.store.specs.Reading.{ReaderCall, reader_answer, reader_of_id_call}
use Rattle.store.proofs.Opens.{open_still}
use Rattle.store.proofs.Refused.{create_none, open_none, by_id_medium, by_id_none}
use Rattle.reader.specs.Reader.{no_reader}
use Rattle.points.specs.declared.Ended.{Ended}
use Rattle.points.specs.declared.Marked.{Marked}
use Rattle.points.specs.declared.Place.{Place}
use Rattle.points.specs.declared.Place.TheVariants as told
use Rattle.points.specs.Look.{asked_point, on_place, look_of, end_of}
use Rattle.points.specs.Told.{place_answer, ended_answer}
use Rattle.points.specs.Set.{marked_answer, SetCall, not_set, told_by, open_of, mark_of, set_from, set_call}
use Rattle.points.specs.Reading.{no_point, upto_answer, point_call}

-- a setting left this volume and told this
abbrev pub Sets : List ℕ → Marked → SetCall → Type 0
Sets v r c = (v ≡ c.vol) × (marked_answer r ≡ c.call)

-- ---- the tests of the input

module _ (vol : List ℕ) (st : Store) (named : Bool) (p : List ℕ) {sectors : ℕ} (s : sectors ≡ sectors_of vol) {k : Bool} (e : k ≡ store_ok st sectors) where
  pub asked_handle : k ≡ false → Err Handle ≡ asked_point (asked_of vol st named) p
  unfolding asked_point asked_of on_done pick
  asked_handle h = rw (← s, ← e, h)

  module _ (h : k ≡ true) where
    pub asked_name_lem : named ≡ false → Err Name ≡ asked_point (asked_of vol st named) p
    unfolding asked_point asked_of on_done pick
    asked_name_lem n = rw (← s, ← e, h, n)

    module _ (n : named ≡ true) {f : Bool} (g : f ≡ point_ok p) where
      pub asked_point_lem : f ≡ false → Err Point ≡ asked_point (asked_of vol st named) p
      unfolding asked_point asked_of on_done pick
      asked_point_lem q = rw (← s, ← e, h, n, ← g, q)

      pub asked_fine : f ≡ true → (Ok tt) ≡ asked_point (asked_of vol st named) p
      unfolding asked_point asked_of on_done pick
      asked_fine q = rw (← s, ← e, h, n, ← g, q)

-- a point's name has at most 16 bytes
point_short : (p : List ℕ) → point_ok p ≡ true → length p ≤ 16
unfolding point_ok
point_short p e =
    let sizes = (and_true (leb 1 (length p) && leb (length p) 16) (every_plain p) e).0 in
    leb-true (length p) 16 (and_true (leb 1 (length p)) (leb (length p) 16) sizes).1

-- 3, 1 and 13 are passed
pub asked_passed : (o : Result Unit Error) (p : List ℕ) {q : Result Unit Error} → q ≡ asked_point o p → q ≡ Ok tt → (o ≡ Ok tt) × (point_ok p ≡ true)
unfolding asked_point on_done pick
asked_passed (Ok tt) p e d = (refl, go (point_ok p) refl (sym e ∙ d))
  where
    go : (b : Bool) → point_ok p ≡ b → pick b (Ok tt) (Err Point) ≡ Ok tt → point_ok p ≡ true
    go true q r = q
    go false q r = not_done r
asked_passed (Err x) p e d = not_done (sym e ∙ d)

pub asked_short : (o : Result Unit Error) (p : List ℕ) {q : Result Unit Error} → q ≡ asked_point o p → q ≡ Ok tt → length p ≤ 16
asked_short o p e d = point_short p (asked_passed o p e d).1

-- ---- `MARKS` opened, the line appended and synced

-- what is sent is the line, whole
module _ (text : List ℕ) {after : List ℕ} {r : ℕ} (put : Put 0 text (zeros 39) after r) (h : r ≤ 39) where
  room : 0 + length text ≤ length (zeros 39)
  room = rw (length_zeros 39) (omega (arith, put.1))

  pub line_room : r ≤ length after
  line_room = rw (put.0, length_over 0 text (zeros 39) room, length_zeros 39) h

  pub line_sent : take r after ≡ text
  unfolding part
  line_sent = rw (put.0, put.1, zero-add) (part_over 0 text (zeros 39) room)

-- the number where the last call was accepted, and else its refusal
pub told_set : (number : ℕ) (o : Result Unit Error) (m : Medium) (st : Store) (a : Appender)
    → marked_answer (record { outcome = result_and o (Ok number); medium = m; store = st; appender = Some a }) ≡ told_by true number (app_answer (record { outcome = o; medium = m; store = st; appender = a }))
unfolding on_ok
told_set number (Ok tt) m st a = refl
told_set number (Err e) m st a = refl

module _ (vol : List ℕ) (m : Medium) (st : Store) where
  pub opens_fresh : {v : List ℕ} (r : Handed) {fresh : Bool} → fresh ≡ true → v ≡ (create_call vol m st marks_name false []).vol
      → app_answer r ≡ (create_call vol m st marks_name false []).call → (v ≡ (open_of fresh vol m st).vol) × (app_answer r ≡ (open_of fresh vol m st).call)
  unfolding open_of pick
  opens_fresh r h e f = rw h (e, f)

  pub opens_there : (r : Handed) {fresh : Bool} → fresh ≡ false → app_answer r ≡ (open_call vol m st marks_name false []).call
      → (vol ≡ (open_of fresh vol m st).vol) × (app_answer r ≡ (open_of fresh vol m st).call)
  unfolding open_of pick
  opens_there r h f = rw h (sym (open_still vol m st marks_name false []).0, f)

  -- a refused opening hands back no appender
  opened_none : (fresh : Bool) → length st.head.crcs ≡ 24 → {n : ℕ} → (open_of fresh vol m st).call.answer ≡ refused n → (open_of fresh vol m st).call.appender ≡ no_appender
  unfolding open_of pick
  opened_none true c q = create_none vol m st marks_name false [] c _ q
  opened_none false c q = open_none vol m st marks_name false [] _ q

module _ (fresh : Bool) (bytes : List ℕ) (number : ℕ) (vol : List ℕ) (m : Medium) (st : Store) {v₁ : List ℕ} (o : Handed)
    (w₁ : v₁ ≡ (open_of fresh vol m st).vol) (a₁ : app_answer o ≡ (open_of fresh vol m st).call) where
  pub mark_unopened : length st.head.crcs ≡ 24 → {e : Error} (r : Marked) → o.outcome ≡ Err e → marked_answer r ≡ (not_set [] o.medium o.store (number_of e)).call
      → Sets v₁ r (mark_of fresh bytes number vol m st)
  unfolding mark_of on_ok
  mark_unopened c {e} r q t =
      let answer : (open_of fresh vol m st).call.answer ≡ refused (number_of e) = ap (λ (x : AppTold). x.answer) (sym a₁) ∙ ap outcome_of q in
      let none : o.appender ≡ no_appender = ap (λ (x : AppTold). x.appender) a₁ ∙ opened_none vol m st fresh c answer in
      rw (← a₁, q, none) (w₁, t)

  module _ (q₁ : o.outcome ≡ Ok tt) {sent : List ℕ} (whole : sent ≡ bytes) {v₂ : List ℕ} (a : Handed)
      (w₂ : v₂ ≡ (append_call v₁ o.medium o.store o.appender sent).vol)
      (a₂ : app_answer a ≡ (append_call v₁ o.medium o.store o.appender sent).call) where
    pub mark_unput : {e : Error} (r : Marked) → a.outcome ≡ Err e → marked_answer r ≡ told_by true number (app_answer a)
        → Sets v₂ r (mark_of fresh bytes number vol m st)
    unfolding mark_of on_ok
    mark_unput r q t = rw (← whole, ← w₁, ← a₁, q₁, ← a₂, q) (w₂, rw q at t)

    pub mark_synced : {v₃ : List ℕ} (s : Handed) (r : Marked) → a.outcome ≡ Ok tt → v₃ ≡ (sync_call v₂ a.medium a.store a.appender).vol
        → app_answer s ≡ (sync_call v₂ a.medium a.store a.appender).call → marked_answer r ≡ told_by true number (app_answer s)
        → Sets v₃ r (mark_of fresh bytes number vol m st)
    unfolding mark_of on_ok
    mark_synced s r q w₃ a₃ t = rw (← whole, ← w₁, ← a₁, q₁, ← a₂, ← w₂, q) (w₃, t ∙ ap (told_by true number) a₃)

-- ---- setting

module _ (fresh : Bool) (vol : List ℕ) (m : Medium) (st : Store) (p name : List ℕ) (e : Result Ended Error) (ends : ended_answer e ≡ end_of vol m st name) where
  pub from_refused : {x : Error} (r : Marked) → e ≡ Err x → marked_answer r ≡ (not_set [] m st (number_of x)).call
      → Sets vol r (set_from fresh vol m st p name)
  unfolding set_from on_ok
  from_refused r q t = rw (← ends, q) (refl, t)

  pub from_marked : {x : Ended} {v : List ℕ} (r : Marked) → e ≡ Ok x → v ≡ (mark_of fresh (line_of p x.id x.number) x.number vol m st).vol
      → marked_answer r ≡ (mark_of fresh (line_of p x.id x.number) x.number vol m st).call
      → Sets v r (set_from fresh vol m st p name)
  unfolding set_from on_ok
  from_marked r q w t = rw (← ends, q) (w, t)

module _ (vol : List ℕ) (m : Medium) (st : Store) (p name : List ℕ) {o : Result Unit Error} {named : Bool} (n : named ≡ name_ok name)
    (asked : o ≡ asked_point (asked_of vol st named) p) (r : Marked) where
  pub set_refused : {e : Error} → o ≡ Err e → marked_answer r ≡ (not_set [] m st (number_of e)).call
      → Sets vol r (set_call vol m st p name)
  unfolding set_call on_done
  set_refused q t = rw (← n, ← asked, q) (refl, t)

  module _ (d : o ≡ Ok tt) (l : Result Place Error) (looks : place_answer l ≡ look_of vol m st p) where
    pub set_unread : {e : Error} → l ≡ Err e → marked_answer r ≡ (not_set [] m st (number_of e)).call
        → Sets vol r (set_call vol m st p name)
    unfolding set_call on_done on_ok
    set_unread q t = rw (← n, ← asked, d, ← looks, q) (refl, t)

    module _ {x : Place} (k : l ≡ Ok x) where
      pub set_known : {id number : ℕ} → x ≡ told.Line id number → marked_answer r ≡ (not_set [] m st 14).call
          → Sets vol r (set_call vol m st p name)
      unfolding set_call on_done on_ok on_place
      set_known q t = rw (← n, ← asked, d, ← looks, k, q) (refl, t)

      pub set_absent : {v : List ℕ} → x ≡ told.Absent → v ≡ (set_from true vol m st p name).vol → marked_answer r ≡ (set_from true vol m st p name).call
          → Sets v r (set_call vol m st p name)
      unfolding set_call on_done on_ok on_place
      set_absent q w t = rw (← n, ← asked, d, ← looks, k, q) (w, t)

      pub set_there : {v : List ℕ} → x ≡ told.Unset → v ≡ (set_from false vol m st p name).vol → marked_answer r ≡ (set_from false vol m st p name).call
          → Sets v r (set_call vol m st p name)
      unfolding set_call on_done on_ok on_place
      set_there q w t = rw (← n, ← asked, d, ← looks, k, q) (w, t)

-- ---- reading up to a point

module _ (vol : List ℕ) (m : Medium) (st : Store) (p : List ℕ) {o : Result Unit Error} (asked : o ≡ asked_point (asked_of vol st true) p) where
  pub point_refused : {e : Error} → o ≡ Err e → no_point m (number_of e) ≡ point_call vol m st p
  unfolding point_call on_done
  point_refused q = rw (← asked, q)

  module _ (d : o ≡ Ok tt) (l : Result Place Error) (looks : place_answer l ≡ look_of vol m st p) where
    pub point_unread : {e : Error} → l ≡ Err e → no_point m (number_of e) ≡ point_call vol m st p
    unfolding point_call on_done on_ok
    point_unread q = rw (← asked, d, ← looks, q)

    module _ {at : Place} (k : l ≡ Ok at) where
      pub point_absent : at ≡ told.Absent → no_point m 9 ≡ point_call vol m st p
      unfolding point_call on_done on_ok on_place
      point_absent q = rw (← asked, d, ← looks, k, q)

      pub point_unset : at ≡ told.Unset → no_point m 9 ≡ point_call vol m st p
      unfolding point_call on_done on_ok on_place
      point_unset q = rw (← asked, d, ← looks, k, q)

      module _ {id number : ℕ} (q : at ≡ told.Line id number) (x : ReaderAnswer) (reads : reader_answer x ≡ reader_of_id_call vol m st id) where
        given : x.medium ≡ m
        given = ap (λ (c : ReaderCall). c.medium) reads ∙ by_id_medium vol m st id

        pub point_lost : {e : Error} → x.outcome ≡ Err e → no_point m (number_of e) ≡ point_call vol m st p
        unfolding point_call on_done on_ok on_place
        point_lost {e} h =
            let answer : (reader_of_id_call vol m st id).answer ≡ refused (number_of e) = ap (λ (c : ReaderCall). c.answer) (sym reads) ∙ ap outcome_of h in
            let none : x.reader ≡ no_reader = ap (λ (c : ReaderCall). c.reader) reads ∙ by_id_none vol m st id _ answer in
            rw (← asked, d, ← looks, k, q, ← reads, h, none, given)

        pub point_found : x.outcome ≡ Ok tt → upto_answer (Ok (record { reader = x.reader; limit = number })) m ≡ point_call vol m st p
        unfolding point_call on_done on_ok on_place
        point_found h = rw (← asked, d, ← looks, k, q, ← reads, h, given)
