-- What a call that opens a file answers, over plain values, and that the calls of an appender take it. Assumes nothing.
use Rattle.std.specs.Prelude.{Ok}
use Rattle.std.proofs.Common.{◌≡◌, ℕ, ◌<◌, ◌≤◌, Bool, true, false, not, ◌&&◌, ◌||◌, leb, List, refl, ◌∙◌, lt-ltb, eq-eqb, ne_eqb, le-leb}
use Rattle.le.proofs.Choices.{pick_true}
use Rattle.medium.specs.declared.Medium.{Medium}
use Rattle.medium.specs.Sector.{sectors_of}
use Rattle.names.specs.Names.{dir_ok}
use Rattle.handles.specs.declared.Store.{Store}
use Rattle.handles.specs.Handles.{store_ok}
use Rattle.append.specs.declared.Tail.{Tail}
use Rattle.append.specs.Appender.{dir_bytes, tail_ok, is_closed, fill_ok, appender_ok, writes, live}
use Rattle.append.specs.Calls.{may_write}
use Rattle.append.proofs.Ways.{success}
use Rattle.files.specs.declared.Rollover.{Rollover}
use Rattle.files.specs.Opened.{with_token, written_by, new_appender, opened_out}

pub opened_new : (vol : List ℕ) (m : Medium) (st : Store) (slot id chunk position : ℕ) (tail : Tail) (rollover : Rollover) {n : Medium} {s : Store}
    → n ≡ with_token m → s ≡ written_by n.token id st
    → success n s (new_appender n.token slot id chunk position tail rollover) ≡ (opened_out vol m st slot id chunk position tail rollover).ans
unfolding opened_out
opened_new vol m st slot id chunk position tail rollover a b = rw (b, a) refl

-- ---- refusals 3 and 11 take the new appender

-- the rollover's directory, where there is a rollover, is one that refusal 3 takes
abbrev pub over_ok : Rollover → Bool
over_ok rollover = not rollover.rolls || (leb rollover.dir.length 40 && dir_ok (dir_bytes rollover.dir))

opened_live : (st : Store) (token slot id chunk position : ℕ) (tail : Tail) (rollover : Rollover) → is_closed tail ≡ false
    → live (written_by token id st) (new_appender token slot id chunk position tail rollover) ≡ true
unfolding live writes
opened_live st token slot id chunk position tail rollover h = rw (eq-eqb token token refl, h) refl

module _ (st : Store) (token slot id chunk position : ℕ) (tail : Tail) (rollover : Rollover) (hs : slot < 64) (hi : id ≡ 0 → ⊥) (hc : chunk < st.head.chunks) (hp : position ≤ 2047)
    (ht : tail_ok tail st.head.chunk ≡ true) (ho : over_ok rollover ≡ true) where
  pub opened_ok : appender_ok (new_appender token slot id chunk position tail rollover) (written_by token id st) ≡ true
  unfolding appender_ok fill_ok
  opened_ok = rw (lt-ltb _ _ hs, ne_eqb _ _ hi, lt-ltb _ _ hc, le-leb _ _ hp, ht) ho

  pub opened_may : (vol : List ℕ) → store_ok st (sectors_of vol) ≡ true → is_closed tail ≡ false
      → may_write vol (written_by token id st) (new_appender token slot id chunk position tail rollover) ≡ Ok tt
  unfolding may_write store_ok
  opened_may vol ok h = pick_true _ _ (rw (ok, opened_ok) refl) ∙ pick_true _ _ (opened_live st token slot id chunk position tail rollover h)
