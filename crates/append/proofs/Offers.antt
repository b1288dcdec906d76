-- The calls on offer: each way out of its function, over plain values. Assumes nothing.
use Rattle.std.specs.Prelude.{Err, Ok, Result}
use mathlib.Core.Path.{◌≡◌, refl, sym, ap, ◌∙◌}
use mathlib.Core.List.{List}
use Prim.Native.Nat.{ℕ}
use mathlib.Core.Bool.{true}
use borrow.Author.Tests.{eq-eqb, ne_eqb}
use lib.ListN.{length}
use Rattle.le.proofs.Choices.{pick_true, pick_false}
use Rattle.medium.specs.declared.Error.{Error}
use Rattle.medium.specs.declared.Medium.{Medium}
use Rattle.medium.specs.Sector.{sectors_of}
use Rattle.medium.proofs.Laws.{on_done_keeps, on_done_no, on_done_done}
use Rattle.medium.specs.Frame.{Spends}
use Rattle.medium.proofs.Frame.{rest_of, spends_none}
use Rattle.handles.specs.declared.Store.{Store}
use Rattle.handles.specs.Handles.{store_ok}
use Rattle.remove.proofs.Keeps.{Good, Stands}
use Rattle.append.specs.declared.Appender.{Appender}
use Rattle.append.specs.declared.Handed.{Handed}
use Rattle.append.specs.Flush.{AppOut, stopped, append_of, flush_of, sync_of}
use Rattle.append.specs.Calls.{may_write, app_answer, AppCall, call_of, offered, append_call, sync_call}
use Rattle.append.proofs.Then.{GivesA, along}
use Rattle.append.proofs.Facts.{May, may_facts}
use Rattle.append.proofs.Runs.{Puts, append_puts, sync_puts}
use Rattle.append.proofs.Owns.{Bound, bound, Owned, append_owned, sync_owned}

-- a call's volume and what it tells are what a definition gives
abbrev pub Offers : List ℕ → Handed → AppCall → Type 0
Offers v r c = (v ≡ c.vol) × (app_answer r ≡ c.call)

pub offers_of : {v : List ℕ} {r : Handed} {o : AppOut} {c : AppCall} → GivesA v r o → call_of o ≡ c → Offers v r c
offers_of g e = (g.0 ∙ ap (λ (x : AppCall). x.vol) e, ap app_answer g.1 ∙ ap (λ (x : AppCall). x.call) e)

module _ (vol : List ℕ) (m : Medium) (st : Store) (a : Appender) (o : AppOut) {c : Result Unit Error} (asked : c ≡ may_write vol st a) where
  pub offer_refused : {e : Error} {r : Handed} → c ≡ Err e → r ≡ record { outcome = Err e; medium = m; store = st; appender = a } → Offers vol r (offered vol m st a o)
  unfolding offered
  offer_refused {e} d h = offers_of {o = stopped vol m st a e} (refl, h) (sym (on_done_no _ _ (sym asked ∙ d)))

  pub offer_done : {v : List ℕ} {r : Handed} → c ≡ Ok tt → GivesA v r o → Offers v r (offered vol m st a o)
  unfolding offered
  offer_done d g = offers_of {o = o} g (sym (on_done_done _ _ (sym asked ∙ d)))

-- ---- sync

module _ (vol : List ℕ) (m : Medium) (st : Store) (a : Appender) where
  pub sync_nothing : {r : Handed} → a.fill ≡ 0 → r ≡ record { outcome = Ok tt; medium = m; store = st; appender = a } → GivesA vol r (sync_of vol m st a)
  unfolding sync_of
  sync_nothing h g = along (refl, g) (sym (pick_true _ _ (eq-eqb _ _ h)))

  pub sync_flushed : {v : List ℕ} {r : Handed} → (a.fill ≡ 0 → ⊥) → GivesA v r (flush_of vol m st a) → GivesA v r (sync_of vol m st a)
  unfolding sync_of
  sync_flushed h g = along g (sym (pick_false _ _ (ne_eqb _ _ h)))

-- nothing is to be written: said of the whole call, so that the check finds it under any condition of the code
pub sync_idle : (vol : List ℕ) (m : Medium) (st : Store) (a : Appender) (r : Handed) → may_write vol st a ≡ Ok tt → a.fill ≡ 0
    → r ≡ record { outcome = Ok tt; medium = m; store = st; appender = a }
    → (vol ≡ (sync_call vol m st a).vol) × (app_answer r ≡ (sync_call vol m st a).call)
unfolding sync_call
sync_idle vol m st a r w h g = offer_done vol m st a (sync_of vol m st a) (sym w) refl (sync_nothing vol m st a h g)

-- ---- what a call hands back: a volume of the same length, the medium record but for writes left, a store value that passes refusal 3 again and has
-- the same appender open, and that appender

pub record Hands (vol : List ℕ) (m : Medium) (st : Store) (a : Appender) (c : AppCall) : Type 0 where
  pub size : length c.vol ≡ length vol
  pub medium : Spends m c.call.medium
  pub ok : store_ok c.call.store (sectors_of c.vol) ≡ true
  pub id : c.call.store.head.id ≡ st.head.id
  pub chunks : c.call.store.head.chunks ≡ st.head.chunks
  pub chunk : c.call.store.head.chunk ≡ st.head.chunk
  pub writer : c.call.store.writer ≡ st.writer
  pub appender : Bound a c.call.appender

module _ (vol : List ℕ) (m : Medium) (st : Store) (a : Appender) (good : Good vol st) (full : length a.buffer ≡ 486) where
  hands : (o : AppOut) → (May vol st a → (Puts vol m st o) × (Owned st a o)) → Hands vol m st a (offered vol m st a o)
  unfolding offered
  hands o f =
      on_done_keeps (Hands vol m st a) (may_write vol st a) _ _
      (λ q.
      let p : (Puts vol m st o) × (Owned st a o) = f (may_facts vol st a full q) in
      let k : Stands vol m st o.vol o.ans.medium o.ans.store = p.0.goes.0 in
      record { size = k.size; medium = k.medium; ok = k.good.ok; id = k.id; chunks = k.chunks; chunk = k.chunk; writer = p.1.0; appender = p.1.1 })
      (λ _ _. record { size = refl; medium = spends_none m; ok = good.ok; id = refl; chunks = refl; chunk = refl; writer = refl; appender = bound })

  pub append_hands : (bytes : List ℕ) → Hands vol m st a (append_call vol m st a bytes)
  unfolding append_call
  append_hands bytes = hands (append_of bytes vol m st a) (λ y. (append_puts bytes vol m st a good y.fit y.room, append_owned bytes vol m st a good y.fit y.room))

  pub sync_hands : Hands vol m st a (sync_call vol m st a)
  unfolding sync_call
  sync_hands = hands (sync_of vol m st a) (λ y. (sync_puts vol m st a good y.fit y.room, sync_owned vol m st a good))

-- ---- the bytes past the last whole sector are as they were, accepted, refused or stopped, whatever the handles (a header's checksums are 24 and an
-- appender's bytes 486 by their types)

module _ (vol : List ℕ) (m : Medium) (st : Store) (a : Appender) (count : length st.head.crcs ≡ 24) (full : length a.buffer ≡ 486) where
  rests : (o : AppOut) → (Good vol st → May vol st a → Puts vol m st o) → rest_of (offered vol m st a o).vol ≡ rest_of vol
  unfolding offered
  rests o f =
      on_done_keeps (λ (c : AppCall). rest_of c.vol ≡ rest_of vol) (may_write vol st a) _ _
      (λ q. let y : May vol st a = may_facts vol st a full q in (f (record { ok = y.ok; count = count }) y).goes.0.rest)
      (λ _ _. refl)

  pub append_rest : (bytes : List ℕ) → rest_of (append_call vol m st a bytes).vol ≡ rest_of vol
  unfolding append_call
  append_rest bytes = rests (append_of bytes vol m st a) (λ g y. append_puts bytes vol m st a g y.fit y.room)

  pub sync_rest : rest_of (sync_call vol m st a).vol ≡ rest_of vol
  unfolding sync_call
  sync_rest = rests (sync_of vol m st a) (λ g y. sync_puts vol m st a g y.fit y.room)
