-- `list`, by the way that it goes: a law for each return, over plain values. Assumes nothing.
use Rattle.std.specs.Prelude.{Err, Ok, Result}
use mathlib.Core.Path.{◌≡◌}
use mathlib.Core.Bool.{Bool, true, false, ◌||◌}
use mathlib.Core.List.{List}
use Prim.Native.Nat.{ℕ, ◌≤◌}
use borrow.Author.Tests.{le-ltb, ltb-false}
use lib.Dec.{ltb, lit≤}
use lib.ListN.{length}
use Rattle.le.specs.Choice.{pick}
use Rattle.le.specs.Part.{over, zeros}
use Rattle.le.proofs.Choices.{pick_keeps}
use Rattle.le.proofs.Bools.{or_false}
use Rattle.names.specs.Names.{dir_ok}
use Rattle.medium.specs.declared.Error.{Error}
use Rattle.medium.specs.declared.Error.TheVariants.{Range}
use Rattle.medium.specs.declared.Medium.{Medium}
use Rattle.medium.specs.Refusal.{on_done}
use Rattle.medium.proofs.Laws.{on_done_keeps}
use Rattle.handles.specs.declared.Store.{Store}
use Rattle.directory.specs.declared.Rows.{Rows}
use Rattle.directory.specs.Rows.{rows_told, rows_of}
use Rattle.directory.proofs.Ranges.{rows_made}
use Rattle.table.specs.Table.{count_of}
use Rattle.store.specs.Asked.{asked_of}
use Rattle.store.specs.declared.ListAnswer.{ListAnswer}
use Rattle.store.specs.Reading.{ListCall, list_at, list_answer, not_listed, list_from, list_call}

abbrev pub short : List ℕ → List ℕ → Bool
short counts rows = ltb (length rows) 3072 || ltb (length counts) 64

pub roomy : (counts rows : List ℕ) → short counts rows ≡ false → (3072 ≤ length rows) × (64 ≤ length counts)
roomy counts rows e = let p = or_false _ _ e in (ltb-false _ _ p.0, ltb-false _ _ p.1)

pub long_enough : (counts rows : List ℕ) → 64 ≤ length counts → 3072 ≤ length rows → short counts rows ≡ false
long_enough counts rows c r = rw (le-ltb (length rows) 3072 r, le-ltb (length counts) 64 c)

module _ (vol : List ℕ) (m : Medium) (st : Store) (dir counts rows : List ℕ) where
  pub short_refused : short counts rows ≡ true → {r : ListAnswer} → r ≡ not_listed m Range → list_answer r counts rows ≡ list_call vol m st dir counts rows
  unfolding list_call pick
  short_refused e k = rw (k, e)

  module _ (long : short counts rows ≡ false) {o : Result Unit Error} {fine : Bool} (f : fine ≡ dir_ok dir) (q : o ≡ asked_of vol st fine) where
    pub input_refused : {e : Error} {r : ListAnswer} → o ≡ Err e → r ≡ not_listed m e → list_answer r counts rows ≡ list_call vol m st dir counts rows
    unfolding list_call pick on_done
    input_refused h k = rw (k, long, ← f, ← q, h)

    going : o ≡ Ok tt → list_from vol m st dir counts rows ≡ list_call vol m st dir counts rows
    unfolding list_call pick on_done
    going h = rw (long, ← f, ← q, h)

    module _ (done : o ≡ Ok tt) {c : Result Unit Error} {zs cs : List ℕ} (z : zs ≡ over 0 (zeros 64) counts) (h : (c ≡ (count_of vol m st zs).outcome) × (cs ≡ (count_of vol m st zs).counts)) where
      pub count_refused : {e : Error} {r : ListAnswer} → c ≡ Err e → r ≡ not_listed m e → list_answer r cs rows ≡ list_call vol m st dir counts rows
      unfolding list_from on_done
      count_refused d k = rw (k, ← going done, ← z, ← h.0, d, h.1)

      pub rows_told_lem : c ≡ Ok tt → {r : Rows} {rs : List ℕ} → rows_told r rs ≡ rows_of vol m st dir cs rows → list_at m r.outcome r.count cs rs ≡ list_call vol m st dir counts rows
      unfolding list_from on_done
      rows_told_lem d a = rw (← going done, ← z, ← h.0, d, ← h.1, ← a)

-- a list makes at most 64 rows, refused or not
pub list_few : (vol : List ℕ) (m : Medium) (st : Store) (dir counts rows : List ℕ) → 3072 ≤ length rows → (list_call vol m st dir counts rows).made ≤ 64
unfolding list_call list_from
list_few vol m st dir counts rows room =
    pick_keeps Few _ _ _ (lit≤ tt)
    (on_done_keeps Few _ _ _ (λ _. on_done_keeps Few _ _ _ (λ _. (rows_made vol m st rows room dir _).few) (λ e _. lit≤ tt)) (λ e _. lit≤ tt))
  where
    Few : ListCall → Type 0
    Few r = r.made ≤ 64
