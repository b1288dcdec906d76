-- What an appender that passes refusals 3 and 11 tells. Assumes nothing.
use Rattle.std.specs.Prelude.{Err, Ok}
use mathlib.Core.Path.{◌≡◌, refl, sym, ◌∙◌}
use mathlib.Core.Bool.{Bool, true, false, not, ◌&&◌, ◌||◌, false≢true}
use mathlib.Core.List.{List}
use Prim.Native.Nat.{ℕ, ◌≤◌, ◌<◌}
use native.Mathlib.Omega.{arith}
use borrow.Author.Tests.{ltb-true, leb-true, eqb-true, not-true}
use lib.Dec.{eqb, leb, ltb}
use lib.ListN.{length}
use Rattle.le.proofs.Choices.{pick_true, pick_false}
use Rattle.le.proofs.Bools.{and_true, where_true}
use Rattle.medium.specs.declared.Error.TheVariants.{Handle, Stale}
use Rattle.medium.specs.Sector.{sectors_of}
use Rattle.medium.proofs.Laws.{not_done}
use Rattle.names.specs.Names.{dir_ok}
use Rattle.handles.specs.declared.Store.{Store}
use Rattle.handles.specs.Handles.{store_ok}
use Rattle.append.specs.declared.Appender.{Appender}
use Rattle.append.specs.Appender.{dir_bytes, tail_ok, is_closed, fill_ok, appender_ok, writes, live, no_appender, Fit}
use Rattle.append.specs.Calls.{may_write}

-- a buffer that is not closed has room
room : (fill : ℕ) (b : Bool) → (ltb fill 486 || (eqb fill 486 && b)) ≡ true → (fill ≤ 486) × (b ≡ false → fill < 486)
room fill b e = go (ltb fill 486) refl
  where
    go : (t : Bool) → ltb fill 486 ≡ t → (fill ≤ 486) × (b ≡ false → fill < 486)
    go true q = let h : fill < 486 = ltb-true fill 486 q in (omega arith, λ _. h)
    go false q =
        let f : (eqb fill 486 && b) ≡ true = (rw q at e) in
        let g = and_true (eqb fill 486) b f in
        let h : fill ≡ 486 = eqb-true fill 486 g.0 in
        (omega arith, λ n. absurd (false≢true (sym n ∙ g.1)))

module _ (a : Appender) (st : Store) (e : appender_ok a st ≡ true) where
  rolling : Bool
  rolling = not a.rolls || (leb a.dir.length 40 && dir_ok (dir_bytes a.dir))

  filling : Bool
  filling = fill_ok a.fill a.tail && (tail_ok a.tail st.head.chunk && rolling)

  placed : (ltb a.slot 64 ≡ true) × (ltb a.chunk st.head.chunks ≡ true) × (leb a.position 2047 ≡ true) × (filling ≡ true)
  unfolding appender_ok filling rolling
  placed =
      let p = and_true (ltb a.slot 64) (not (eqb a.id 0) && (ltb a.chunk st.head.chunks && (leb a.position 2047 && filling))) e in
      let q = and_true (not (eqb a.id 0)) (ltb a.chunk st.head.chunks && (leb a.position 2047 && filling)) p.1 in
      let r = and_true (ltb a.chunk st.head.chunks) (leb a.position 2047 && filling) q.1 in
      let s = and_true (leb a.position 2047) filling r.1 in
      (p.0, r.0, s.0, s.1)

  filled : (fill_ok a.fill a.tail ≡ true) × (tail_ok a.tail st.head.chunk ≡ true) × (rolling ≡ true)
  unfolding filling
  filled =
      let p = and_true (fill_ok a.fill a.tail) (tail_ok a.tail st.head.chunk && rolling) placed.3 in
      let q = and_true (tail_ok a.tail st.head.chunk) rolling p.1 in
      (p.0, q.0, q.1)

  pub appender_low : a.position ≤ 2047
  appender_low = leb-true _ _ placed.2

  pub appender_fits : length a.buffer ≡ 486 → Fit a st
  unfolding fill_ok rolling
  appender_fits full =
      let d : Bool = leb a.dir.length 40 && dir_ok (dir_bytes a.dir) in
      record {
        slot = ltb-true _ _ placed.0;
        chunk = ltb-true _ _ placed.1;
        position = omega (arith, appender_low);
        fill = (room a.fill (is_closed a.tail) filled.0).0;
        full = full;
        tail = filled.1;
        dir = λ rolls. leb-true _ _ (and_true (leb a.dir.length 40) (dir_ok (dir_bytes a.dir)) (where_true a.rolls d filled.2 rolls)).0;
      }

  pub appender_room : is_closed a.tail ≡ false → a.fill < 486
  unfolding fill_ok
  appender_room n = (room a.fill (is_closed a.tail) filled.0).1 n

-- what a refused call holds never passes
pub none_fails : (st : Store) → appender_ok no_appender st ≡ false
unfolding appender_ok no_appender
none_fails st = refl

-- ---- the tests before the work

module _ (vol : List ℕ) (st : Store) (a : Appender) {held fine : Bool} (hh : held ≡ store_ok st (sectors_of vol)) (hf : fine ≡ appender_ok a st) where
  pub may_handle : (held && fine) ≡ false → Err Handle ≡ may_write vol st a
  unfolding may_write
  may_handle t = sym (pick_false _ _ (rw (← hh, ← hf) t))

  module _ (t : (held && fine) ≡ true) {alive : Bool} (hl : alive ≡ live st a) where
    pub may_stale : alive ≡ false → Err Stale ≡ may_write vol st a
    unfolding may_write
    may_stale s = sym (pick_true _ _ (rw (← hh, ← hf) t) ∙ pick_false _ _ (sym hl ∙ s))

    pub may_done : alive ≡ true → (Ok tt) ≡ may_write vol st a
    unfolding may_write
    may_done s = sym (pick_true _ _ (rw (← hh, ← hf) t) ∙ pick_true _ _ (sym hl ∙ s))

pub record May (vol : List ℕ) (st : Store) (a : Appender) : Type 0 where
  pub ok : store_ok st (sectors_of vol) ≡ true
  pub fit : Fit a st
  pub room : a.fill < 486

pub may_facts : (vol : List ℕ) (st : Store) (a : Appender) → length a.buffer ≡ 486 → may_write vol st a ≡ Ok tt → May vol st a
unfolding may_write live
may_facts vol st a full e = go (store_ok st (sectors_of vol) && appender_ok a st) refl (writes st.writer a.token && not (is_closed a.tail)) refl
  where
    go : (x : Bool) → (store_ok st (sectors_of vol) && appender_ok a st) ≡ x → (y : Bool) → (writes st.writer a.token && not (is_closed a.tail)) ≡ y → May vol st a
    go false q y r = not_done (sym (pick_false _ _ q) ∙ e)
    go true q false r = not_done (sym (pick_true _ _ q ∙ pick_false _ _ r) ∙ e)
    go true q true r =
        let b = and_true (store_ok st (sectors_of vol)) (appender_ok a st) q in
        let w = and_true (writes st.writer a.token) (not (is_closed a.tail)) r in
        record { ok = b.0; fit = appender_fits a st b.1 full; room = appender_room a st b.1 (not-true (is_closed a.tail) w.1) }
