-- A line's ways, over plain values: a law for each return. Assumes nothing.
use Rattle.std.specs.Prelude.{Err, Ok, Result, Some, None, Option}
use Rattle.std.specs.Option.{is_some, unwrap_or}
use mathlib.Core.Path.{◌≡◌, refl, sym, ap, ◌∙◌}
use mathlib.Core.Bool.{Bool, true, false}
use mathlib.Core.List.{List, []}
use Prim.Native.Nat.{ℕ}
use native.Mathlib.Omega.{arith}
use Rattle.le.specs.Choice.{pick}
use Rattle.le.specs.Part.{zeros}
use Rattle.le.proofs.Choices.{pick_true}
use Rattle.words.specs.declared.Parsed.{Parsed}
use Rattle.words.specs.declared.Parsed.TheVariants as is
use denote.Ref.{Bor}
use Rattle.words.specs.Words.{no_rollover, rollover, list, line_of, meaning, rollover_in}
use Rattle.medium.specs.declared.Error.{Error}
use Rattle.medium.specs.declared.Error.TheVariants.{Uninitialized, Stale}
use Rattle.medium.specs.Refusal.{number_of, on_ok, outcome_of}
use Rattle.handles.specs.declared.Store.{Store}
use Rattle.append.specs.declared.Appender.{Appender}
use Rattle.append.specs.declared.Handed.{Handed}
use Rattle.append.specs.declared.Room.{Room}
use Rattle.append.specs.declared.Room.TheVariants as room
use Rattle.append.specs.Calls.{append_call, sync_call, room_answer, room_call}
use Rattle.append.proofs.Offers.{Offers}
use Rattle.store.specs.declared.StoreAnswer.{StoreAnswer}
use Rattle.store.specs.declared.ListAnswer.{ListAnswer}
use Rattle.store.specs.Reading.{store_answer, list_answer, list_call}
use Rattle.store.specs.Writing.{format_call, delete_call}
use Rattle.store.specs.Opening.{opening, create_earlier, admitted_of, if_admitted, create_call}
use Rattle.store.specs.Opening as store
use Rattle.session.specs.declared.Session.{Session}
use Rattle.session.specs.declared.Reply.{Reply}
use Rattle.session.specs.Session.{ok, listed, no, said_of, allowed_of, held_of, formatted_of, created_of, Turn, turn, format_line, refusing, store_of, handles_of}
use Rattle.session.specs.Session.{opened, create_line, room_said, append_line, sync_line, delete_line, list_line, after_format, after_create, line_step, step_of}

-- ---- before an accepted format, and before an accepted create

-- by a flag, a value is told, or the error in its place
not_told : {A : Type 0} (b : Bool) (v : A) {x e : Error} → pick b (Ok v) (Err x) ≡ Err e → (b ≡ false) × (e ≡ x)
unfolding pick
not_told true v q = absurd (let z : ◌≡◌ {A = ℕ} 0 1 = cc in omega arith)
not_told false v q = (refl, cc)

is_told : {A : Type 0} (b : Bool) (v : A) (x : Error) {w : A} → pick b (Ok v) (Err x) ≡ Ok w → (b ≡ true) × (w ≡ v)
unfolding pick
is_told true v x q = (refl, cc)
is_told false v x q = absurd (let z : ◌≡◌ {A = ℕ} 0 1 = cc in omega arith)

module _ (vol : List ℕ) (s : Session) {r : Result Store Error} (asked : r ≡ store_of s) where
  module _ {e : Error} (q : r ≡ Err e) where
    not_held : (s.formatted ≡ false) × (e ≡ Uninitialized)
    unfolding store_of
    not_held = not_told s.formatted s.store (sym asked ∙ q)

    pub no_format : (t : Turn) → turn vol s (no (number_of e)) ≡ after_format vol s t
    unfolding after_format pick
    no_format t = let n = not_held in rw (n.0, n.1)

    pub no_list : (rows : List ℕ) → (turn vol s (no (number_of e)), rows) ≡ line_step vol s rows list
    unfolding line_step pick
    no_list rows = let n = not_held in rw (n.0, n.1)

  module _ {st : Store} (q : r ≡ Ok st) where
    is_held : (s.formatted ≡ true) × (st ≡ s.store)
    unfolding store_of
    is_held = is_told s.formatted s.store Uninitialized (sym asked ∙ q)

    pub held_store_is : st ≡ s.store
    held_store_is = is_held.1

    pub with_format : {t u : Turn} → t ≡ u → t ≡ after_format vol s u
    unfolding after_format
    with_format {u = u} e = e ∙ sym (pick_true u (refusing vol s 5) is_held.0)

    pub with_list : (rows : List ℕ) → {t : Turn × List ℕ} → t ≡ list_line vol s rows → t ≡ line_step vol s rows list
    unfolding line_step
    with_list rows e = e ∙ sym (pick_true (list_line vol s rows) (refusing vol s 5, rows) is_held.0)

-- both handles, or what is told in their place
abbrev pair_of : Bool → Bool → Store → Appender → Result (Store × Appender) Error
pair_of f c st a = pick f (pick c (Ok (st, a)) (Err Stale)) (Err Uninitialized)

module _ (vol : List ℕ) (s : Session) {r : Result (Store × Appender) Error} (asked : r ≡ handles_of s) where
  pub no_handles : {e : Error} → r ≡ Err e → (t : Turn) → turn vol s (no (number_of e)) ≡ after_create vol s t
  unfolding after_create after_format handles_of pick
  no_handles {e} q t = go s.formatted s.created (sym asked ∙ q)
    where
      go : (f c : Bool) → pair_of f c s.store s.appender ≡ Err e
          → turn vol s (no (number_of e)) ≡ pick f (pick c t (refusing vol s 11)) (refusing vol s 5)
      go false c k = let z : e ≡ Uninitialized = cc in rw z
      go true false k = let z : e ≡ Stale = cc in rw z
      go true true k = absurd (let z : ◌≡◌ {A = ℕ} 0 1 = cc in omega arith)

  with_handles : {st : Store} {a : Appender} → r ≡ Ok (st, a) → (st ≡ s.store) × (a ≡ s.appender) × ((t : Turn) → t ≡ after_create vol s t)
  unfolding after_create after_format handles_of pick
  with_handles {st} {a} q = go s.formatted s.created (sym asked ∙ q)
    where
      go : (f c : Bool) → pair_of f c s.store s.appender ≡ Ok (st, a)
          → (st ≡ s.store) × (a ≡ s.appender) × ((t : Turn) → t ≡ pick f (pick c t (refusing vol s 11)) (refusing vol s 5))
      go false c k = absurd (let z : ◌≡◌ {A = ℕ} 0 1 = cc in omega arith)
      go true false k = absurd (let z : ◌≡◌ {A = ℕ} 0 1 = cc in omega arith)
      go true true k =
          let w : ◌≡◌ {A = Store × Appender} (st, a) (s.store, s.appender) = cc in
          (ap (λ (t : Store × Appender). t.0) w, ap (λ (t : Store × Appender). t.1) w, λ t. refl)

-- ---- format

module _ (vol : List ℕ) (s : Session) (size seed : ℕ) (r : StoreAnswer) {v : List ℕ}
    (g : (v ≡ (format_call vol s.medium size seed).vol) × (store_answer r ≡ (format_call vol s.medium size seed).call)) where
  pub format_refused : {e : Error} → r.outcome ≡ Err e
      → turn v (held_of s s.store s.appender r.medium) (no (number_of e)) ≡ format_line vol s size seed
  unfolding format_line on_ok
  format_refused o = rw (← g.0, ← g.1, o)

  pub format_done : r.outcome ≡ Ok tt → {n : ℕ} → n ≡ r.store.head.chunks
      → turn v (formatted_of s r.store r.medium) (ok n) ≡ format_line vol s size seed
  unfolding format_line on_ok
  format_done o q = rw (q, ← g.0, ← g.1, o)

-- ---- create: a directory that is not set counts for nothing

create_as : (vol : List ℕ) (s : Session) (name : List ℕ) (rolls : Bool) (dir : List ℕ)
    → opened s (create_call vol s.medium s.store name rolls dir) ≡ create_line vol s name (pick rolls (rollover dir) no_rollover)
unfolding create_line create_call if_admitted admitted_of create_earlier opening store.rollover_of pick
create_as vol s name true dir = refl
create_as vol s name false dir = refl

module _ (vol : List ℕ) (s : Session) (name : List ℕ) (rolls : Bool) (dir : List ℕ) (f : Handed) {v : List ℕ}
    (g : Offers v f (create_call vol s.medium s.store name rolls dir)) where
  pub create_refused : {e : Error} → f.outcome ≡ Err e
      → turn v (held_of s f.store s.appender f.medium) (no (number_of e)) ≡ create_line vol s name (pick rolls (rollover dir) no_rollover)
  unfolding on_ok
  create_refused {e = e} o = go ∙ create_as vol s name rolls dir
    where
      go : turn v (held_of s f.store s.appender f.medium) (no (number_of e)) ≡ opened s (create_call vol s.medium s.store name rolls dir)
      go = rw (← g.0, ← g.1, o)

  pub create_done : f.outcome ≡ Ok tt
      → turn v (created_of s f.store f.appender f.medium) (ok f.appender.id) ≡ create_line vol s name (pick rolls (rollover dir) no_rollover)
  unfolding on_ok
  create_done o = go ∙ create_as vol s name rolls dir
    where
      go : turn v (created_of s f.store f.appender f.medium) (ok f.appender.id) ≡ opened s (create_call vol s.medium s.store name rolls dir)
      go = rw (← g.0, ← g.1, o)

-- ---- append and sync: bytes until a record

module _ (o : Result Unit Error) (a : Appender) where
  pub room_not : {e : Error} → o ≡ Err e → no (number_of e) ≡ room_said (outcome_of o) (room_call a)
  unfolding on_ok
  room_not q = rw q

  module _ (d : o ≡ Ok tt) {r : Room} (g : room_answer r ≡ room_call a) where
    pub room_refused : {e : Error} → r ≡ room.Refused e → no (number_of e) ≡ room_said (outcome_of o) (room_call a)
    unfolding on_ok
    room_refused q = rw (d, ← g, q)

    pub room_is : {n : ℕ} → r ≡ room.Is n → ok n ≡ room_said (outcome_of o) (room_call a)
    unfolding on_ok
    room_is q = rw (d, ← g, q)

module _ (vol : List ℕ) (s : Session) {h : Result (Store × Appender) Error} (asked : h ≡ handles_of s) {st : Store} {a : Appender} (given : h ≡ Ok (st, a))
    (f : Handed) {v : List ℕ} {t : Session} (r : Result Reply Error)
    (q : (t ≡ held_of s f.store f.appender f.medium) × (said_of r ≡ room_said (outcome_of f.outcome) (room_call f.appender))) where
  pub append_told : (text : List ℕ) → Offers v f (append_call vol s.medium st a text) → turn v t (said_of r) ≡ after_create vol s (append_line vol s text)
  unfolding append_line
  append_told text g = let k = with_handles vol s asked given in go k.0 k.1 ∙ k.2 (append_line vol s text)
    where
      go : st ≡ s.store → a ≡ s.appender → turn v t (said_of r) ≡ append_line vol s text
      go k m = rw (← k, ← m, q.0, q.1, ← g.0, ← g.1)

  pub sync_told : Offers v f (sync_call vol s.medium st a) → turn v t (said_of r) ≡ after_create vol s (sync_line vol s)
  unfolding sync_line
  sync_told g = let k = with_handles vol s asked given in go k.0 k.1 ∙ k.2 (sync_line vol s)
    where
      go : st ≡ s.store → a ≡ s.appender → turn v t (said_of r) ≡ sync_line vol s
      go k m = rw (← k, ← m, q.0, q.1, ← g.0, ← g.1)

-- ---- delete and list

module _ (vol : List ℕ) (s : Session) (name : List ℕ) (d : StoreAnswer) {v : List ℕ}
    (g : (v ≡ (delete_call vol s.medium s.store name).vol) × (store_answer d ≡ (delete_call vol s.medium s.store name).call)) where
  pub delete_refused : {e : Error} → d.outcome ≡ Err e → turn v (held_of s d.store s.appender d.medium) (no (number_of e)) ≡ delete_line vol s name
  unfolding delete_line on_ok
  delete_refused o = rw (← g.0, ← g.1, o)

  pub delete_done : d.outcome ≡ Ok tt → turn v (held_of s d.store s.appender d.medium) (ok 0) ≡ delete_line vol s name
  unfolding delete_line on_ok
  delete_done o = rw (← g.0, ← g.1, o)

module _ (vol : List ℕ) (s : Session) (rows : List ℕ) (l : ListAnswer) {counts after : List ℕ}
    (g : list_answer l counts after ≡ list_call vol s.medium s.store [] (zeros 64) rows) where
  pub list_refused : {e : Error} → l.outcome ≡ Err e → (turn vol (held_of s s.store s.appender l.medium) (no (number_of e)), after) ≡ list_line vol s rows
  unfolding list_line on_ok
  list_refused o = rw (← g, o)

  pub list_done : l.outcome ≡ Ok tt → (turn vol (held_of s s.store s.appender l.medium) (listed l.count), after) ≡ list_line vol s rows
  unfolding list_line on_ok
  list_done o = rw (← g, o)

-- ---- a line, by its word

module _ (vol rows l : List ℕ) (s : Session) {p : Parsed} (h : meaning p ≡ line_of l) where
  by_word : {q : Parsed} → p ≡ q → line_step vol s rows (meaning q) ≡ line_step vol s rows (line_of l)
  by_word e = rw (← e, h)

  pub other_word : p ≡ is.Other → (turn vol s (no 2), rows) ≡ line_step vol s rows (line_of l)
  unfolding line_step meaning
  other_word e = by_word e

  pub format_word_lem : {size seed : ℕ} → p ≡ is.Format size seed → {t : Turn} → t ≡ format_line vol s size seed → (t, rows) ≡ line_step vol s rows (line_of l)
  unfolding line_step meaning
  format_word_lem e g = rw g (by_word e)

  pub create_word_lem : {name : Bor (List ℕ)} {dir : Option (Bor (List ℕ))} → p ≡ is.Create name dir → {t : Turn}
      → t ≡ after_format vol s (create_line vol s name.now (rollover_in dir)) → (t, rows) ≡ line_step vol s rows (line_of l)
  unfolding line_step meaning
  create_word_lem e g = rw g (by_word e)

  pub append_word_lem : {text : Bor (List ℕ)} → p ≡ is.Append text → {t : Turn} → t ≡ after_create vol s (append_line vol s text.now) → (t, rows) ≡ line_step vol s rows (line_of l)
  unfolding line_step meaning
  append_word_lem e g = rw g (by_word e)

  pub sync_word_lem : p ≡ is.Sync → {t : Turn} → t ≡ after_create vol s (sync_line vol s) → (t, rows) ≡ line_step vol s rows (line_of l)
  unfolding line_step meaning
  sync_word_lem e g = rw g (by_word e)

  pub delete_word_lem : {name : Bor (List ℕ)} → p ≡ is.Delete name → {t : Turn} → t ≡ after_format vol s (delete_line vol s name.now) → (t, rows) ≡ line_step vol s rows (line_of l)
  unfolding line_step meaning
  delete_word_lem e g = rw g (by_word e)

  pub list_word_lem : p ≡ is.List → {t : Turn × List ℕ} → t ≡ line_step vol s rows list → t ≡ line_step vol s rows (line_of l)
  unfolding meaning
  list_word_lem e g = g ∙ by_word e

-- what the code passes on of a create's directory
pub rollover_told : (dir : Option (Bor (List ℕ))) (other : Bor (List ℕ)) → pick (is_some dir) (rollover (unwrap_or dir other).now) no_rollover ≡ rollover_in dir
unfolding rollover_in pick
rollover_told None other = refl
rollover_told (Some dir) other = refl

-- all writes are allowed before the line
pub stepped : (vol rows l : List ℕ) (s : Session) {a : Session} → a ≡ allowed_of s → {t : Turn × List ℕ} → t ≡ line_step vol a rows (line_of l) → t ≡ step_of vol s rows l
unfolding step_of
stepped vol rows l s e g = rw (← e) g
