-- The appender that an accepted create or open_append hands back may write; that of create is ready for the starred row of 01's Edges. Assumes nothing.
use Rattle.std.specs.Prelude.{Ok}
use mathlib.Core.Path.{◌≡◌, refl}
use mathlib.Core.Bool.{Bool, true, false, not, ◌||◌}
use mathlib.Core.List.{List}
use Prim.Native.Nat.{ℕ, ◌≤◌, ◌<◌, zero-le}
use native.Mathlib.Omega.{arith}
use borrow.Author.Tests.{le-leb}
use lib.Dec.{lit≤}
use lib.ListN.{length}
use Rattle.le.specs.Part.{over, zeros}
use Rattle.le.specs.Choice.{pick}
use Rattle.le.proofs.Parts.{length_zeros, part_over}
use Rattle.le.proofs.Bools.{and_true}
use Rattle.names.specs.Names.{name_ok, dir_ok}
use Rattle.names.proofs.Laws.{name_short, dir_short}
use Rattle.medium.specs.declared.Medium.{Medium}
use Rattle.medium.specs.Refusal.{ok}
use Rattle.medium.specs.Sector.{sectors_of}
use Rattle.medium.proofs.Laws.{on_done_keeps, not_done, done_told}
use Rattle.handles.specs.declared.Store.{Store}
use Rattle.handles.proofs.Laws.{store_facts}
use Rattle.remove.proofs.Keeps.{Stands, stands_none}
use Rattle.append.specs.declared.Handed.{Handed}
use Rattle.append.specs.declared.Tail.TheVariants.{At}
use Rattle.append.specs.Appender.{dir_bytes, tail_ok, is_closed}
use Rattle.append.specs.Calls.{may_write}
use Rattle.append.specs.Flush.{AppOut}
use Rattle.files.specs.declared.Rollover.{Rollover}
use Rattle.files.specs.Opened.{next_token, opened_out}
use Rattle.files.proofs.Opens.{over_ok, opened_may}
use Rattle.files.proofs.Keeps.{from_holds}
use Rattle.reopen.proofs.Opens.{reopen_opens}
use Rattle.store.specs.Edges.{Ready}
use Rattle.store.specs.Opening.{open_fine, rollover_of, admitted_of, create_call, open_call}
use Rattle.store.proofs.Laws.{Accepted, asked_done}
use Rattle.store.proofs.Admits.{admitted_asked, create_is, open_is}

-- a directory that is set and passes its rule makes a rollover that does
dir_kept : (dir : List ℕ) → length dir ≤ 40 → dir_bytes (record { bytes = over 0 dir (zeros 40); length = length dir }) ≡ dir
unfolding dir_bytes
dir_kept dir h = part_over 0 dir (zeros 40) (omega (arith, length_zeros 40))

rollover_passes : (rolls : Bool) (dir : List ℕ) → (not rolls || dir_ok dir) ≡ true → over_ok (rollover_of rolls dir) ≡ true
unfolding rollover_of pick
rollover_passes false dir h = refl
rollover_passes true dir h =
    let s : length dir ≤ 40 = dir_short dir h in
    rw (le-leb _ _ s, dir_kept dir s) h

-- what the tests of the input tell
pub record Fine (name : List ℕ) (rolls : Bool) (dir : List ℕ) : Type 0 where
  pub short : length name ≤ 40
  pub over : over_ok (rollover_of rolls dir) ≡ true

fine_facts : (name : List ℕ) (rolls : Bool) (dir : List ℕ) → open_fine name rolls dir ≡ true → Fine name rolls dir
fine_facts name rolls dir h =
    let b = and_true (name_ok name) (not rolls || dir_ok dir) h in
    record { short = name_short name b.0; over = rollover_passes rolls dir b.1 }

module _ (vol : List ℕ) (m : Medium) (st : Store) (name : List ℕ) (rolls : Bool) (dir : List ℕ) where
  abbrev over' : Rollover
  over' = rollover_of rolls dir

  accepted : admitted_of vol st name rolls dir ≡ Ok tt → Accepted vol st (open_fine name rolls dir)
  accepted q = asked_done vol st (open_fine name rolls dir) refl (admitted_asked vol st name rolls dir q)

  fine : admitted_of vol st name rolls dir ≡ Ok tt → Fine name rolls dir
  fine q = fine_facts name rolls dir (accepted q).named

  -- ---- open_append

  abbrev May : AppOut → Type 0
  May o = o.ans.outcome ≡ Ok tt → may_write vol o.ans.store o.ans.appender ≡ Ok tt

  pub open_may : (open_call vol m st name rolls dir).call.answer ≡ ok tt → may_write vol (open_call vol m st name rolls dir).call.store (open_call vol m st name rolls dir).call.appender ≡ Ok tt
  open_may =
      rw (open_is vol st name rolls dir m)
      (λ a. on_done_keeps May (admitted_of vol st name rolls dir) _ _
      (λ q d. (reopen_opens name over' vol m st (accepted q).ok d).may (fine q).over)
      (λ e q. not_done) (done_told _ a))

  -- ---- create

  abbrev Readies : List ℕ → Handed → Type 0
  Readies v x = x.outcome ≡ Ok tt → 1 ≤ x.medium.left → Ready v x.medium x.store x.appender

  new_ready : over_ok over' ≡ true → (v : List ℕ) (n : Medium) (s : Store) (slot id chunk : ℕ) → Stands vol m st v n s → slot < 64 → (id ≡ 0 → ⊥) → chunk < s.head.chunks
      → Readies v (opened_out v n s slot id chunk 0 (At 0) over').ans
  unfolding opened_out tail_ok is_closed
  new_ready fits v n s slot id chunk k hs hi hc d left =
      record {
        may = opened_may s (next_token n) slot id chunk 0 (At 0) over' hs hi hc (lit≤ tt) (le-leb 0 s.head.chunk zero-le) fits v k.good.ok refl;
        empty = refl;
        size = length_zeros 486;
        index = 0;
        at = refl;
        room = (store_facts s (sectors_of v) k.good.ok).head.size_least;
        left = left;
      }

  pub create_ready : length st.head.crcs ≡ 24 → (create_call vol m st name rolls dir).call.answer ≡ ok tt → 1 ≤ (create_call vol m st name rolls dir).call.medium.left
      → Ready (create_call vol m st name rolls dir).vol (create_call vol m st name rolls dir).call.medium (create_call vol m st name rolls dir).call.store (create_call vol m st name rolls dir).call.appender
  create_ready count =
      rw (create_is vol st name rolls dir m)
      (λ a. on_done_keeps (λ (o : AppOut). Readies o.vol o.ans) (admitted_of vol st name rolls dir) _ _
      (λ q. from_holds vol m st over' Readies (record { no = λ v n s e k. not_done; yes = new_ready (fine q).over }) name (fine q).short 2 vol m st (stands_none vol m st (record { ok = (accepted q).ok; count = count })))
      (λ e q. not_done) (done_told _ a))
