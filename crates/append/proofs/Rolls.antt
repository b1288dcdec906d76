-- What stands after a rollover and after an extension, as the functions that go on ask for it; and the slices that they take. Assumes nothing.
use mathlib.Core.Path.{◌≡◌, sym, ap, ◌∙◌}
use mathlib.Core.Bool.{Bool, true}
use mathlib.Core.List.{List}
use Prim.Native.Nat.{ℕ, ◌-◌, ◌≤◌, ◌<◌}
use native.Mathlib.Omega.{arith}
use borrow.Author.Tests.{ltb-true}
use lib.Dec.{leb, ltb}
use lib.ListN.{length, take, drop, length-take}
use Rattle.std.specs.Prelude.{Option}
use Rattle.le.specs.Part.{part}
use Rattle.le.proofs.Bools.{and_true}
use Rattle.medium.specs.declared.Medium.{Medium}
use Rattle.medium.specs.Sector.{sectors_of}
use Rattle.handles.specs.declared.Store.{Store}
use Rattle.handles.specs.Handles.{store_ok}
use Rattle.handles.proofs.Laws.{store_facts}
use Rattle.remove.specs.declared.Gone.{Gone}
use Rattle.remove.specs.Remove.{remove_oldest_of}
use Rattle.remove.proofs.Ways.{GivesG}
use Rattle.remove.proofs.Keeps.{GoneStands, oldest_stands}
use Rattle.append.specs.declared.Appender.{Appender}
use Rattle.append.specs.declared.Dir.{Dir}
use Rattle.append.specs.declared.Handed.{Handed}
use Rattle.append.specs.declared.Tail.{Tail}
use Rattle.append.specs.declared.Tail.TheVariants.{Reopened}
use Rattle.append.specs.Appender.{dir_bytes, tail_ok, Fit}
use Rattle.append.specs.Flush.{extend_of}
use Rattle.append.proofs.Then.{GivesA}
use Rattle.append.proofs.Keeps.{Goes, fit_still, extend_goes}

-- ---- slices from the start

pub dir_slice : (d : Dir) → take (d.length - 0) (drop 0 d.bytes) ≡ dir_bytes d
unfolding dir_bytes part
dir_slice d = let e : d.length - 0 ≡ d.length = omega arith in ap (λ (n : ℕ). take n (drop 0 d.bytes)) e

pub fill_slice : (a : Appender) → take (a.fill - 0) (drop 0 a.buffer) ≡ part 0 a.fill a.buffer
unfolding part
fill_slice a = let e : a.fill - 0 ≡ a.fill = omega arith in ap (λ (n : ℕ). take n (drop 0 a.buffer)) e

pub fill_short : (a : Appender) → a.fill ≤ 486 → length (take (a.fill - 0) (drop 0 a.buffer)) ≤ 486
fill_short a h = omega (arith, length-take (a.fill - 0) (drop 0 a.buffer))

-- ---- the records of a reopened chunk fit its link

pub reopened_few : (a : Appender) (st : Store) (n sectors : ℕ) → store_ok st sectors ≡ true → Fit a st → a.tail ≡ Reopened n → n < 512
unfolding tail_ok
reopened_few a st n sectors ok f q =
    let t : tail_ok (Reopened n) st.head.chunk ≡ true = ap (λ (x : Tail). tail_ok x st.head.chunk) (sym q) ∙ f.tail in
    let h : n < st.head.chunk = ltb-true _ _ (and_true (leb 1 n) (ltb n st.head.chunk) t).1 in
    omega (arith, (store_facts st sectors ok).head.size_most)

-- ---- what stands

pub record After (vol : List ℕ) (st : Store) (a : Appender) : Type 0 where
  pub ok : store_ok st (sectors_of vol) ≡ true
  pub fit : Fit a st

module _ (vol : List ℕ) (m : Medium) (st : Store) (a : Appender) (ok : store_ok st (sectors_of vol) ≡ true) (count : length st.head.crcs ≡ 24) (fit : Fit a st) where
  pub rolled_after : (dir : List ℕ) (spared : Option ℕ) {v : List ℕ} {g : Gone} → GivesG v g (remove_oldest_of vol m st dir spared) → After v g.store a
  rolled_after dir spared h =
      let k : GoneStands vol m st (remove_oldest_of vol m st dir spared) = oldest_stands vol m st dir spared (record { ok = ok; count = count }) in
      rw (h.0, h.1) (record { ok = k.good.ok; fit = fit_still k.chunks k.chunk fit })

  pub extended_after : (partial : Bool) (records : ℕ) {v : List ℕ} {x : Handed} → GivesA v x (extend_of vol m st a partial records) → After v x.store x.appender
  extended_after partial records h =
      let k : Goes vol m st (extend_of vol m st a partial records) = extend_goes vol m st a partial records (record { ok = ok; count = count }) fit in
      rw (h.0, h.1) (record { ok = k.0.good.ok; fit = k.1 })
