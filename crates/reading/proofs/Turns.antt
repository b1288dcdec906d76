-- One call of next, over plain values: what it answers where the reader has arrived and what stands at its index is known. Assumes nothing.
use Rattle.std.specs.Prelude.{Ok, Option, Some, None, Result}
use Rattle.medium.specs.declared.Error.{Error}
use mathlib.Core.Path.{◌≡◌, refl, ap, sym}
use mathlib.Core.Bool.{true}
use mathlib.Core.List.{List}
use Prim.Native.Nat.{ℕ, ◌+◌, ◌≤◌, ◌<◌}
use native.Mathlib.Nat.{le_refl}
use native.Mathlib.Omega.{arith}
use borrow.Author.Tests.{eq-eqb}
use Rattle.le.specs.Choice.{pick}
use Rattle.le.specs.Part.{over}
use Rattle.walk.specs.Walk.{visits}
use Rattle.walk.proofs.Laws.{walk_keeps}
use Rattle.medium.specs.declared.Medium.{Medium}
use Rattle.medium.specs.Sector.{sectors_of, sector_at}
use Rattle.handles.specs.declared.Store.{Store}
use Rattle.handles.specs.Handles.{store_ok}
use Rattle.record.specs.Record.{on_judged, payload_of, data_at, on_result}
use Rattle.reader.specs.declared.Reader.{Reader}
use Rattle.reader.specs.declared.Found.TheVariants as found
use Rattle.reader.specs.Reader.{moved_to}
use Rattle.reader.specs.Next.{is_last, limit_of, arrive_of, record_here, search_step, search_of, tells, hole_of, take_of, next_of}
use Rattle.reader.specs.Calls.{usable_of}
use Rattle.reader.proofs.Facts.{Reads, reader_ok_lem}
use Rattle.reader.proofs.Finds.{hole_end}

module _ (vol : List ℕ) (m : Medium) (st : Store) (rd : Reader) where
  -- the store's own reader is accepted
  pub usable : store_ok st (sectors_of vol) ≡ true → Reads rd st → rd.store ≡ st.head.id → rd.generation ≡ st.head.generation → usable_of vol st rd ≡ Ok tt
  unfolding usable_of pick
  usable ok r a b = rw (ok, reader_ok_lem rd st r, eq-eqb _ _ a, eq-eqb _ _ b)

  -- what follows depends on where the reader arrives
  pub next_alike : (rd' : Reader) (out : List ℕ) → arrive_of vol m st rd ≡ arrive_of vol m st rd' → next_of vol m st rd out ≡ next_of vol m st rd' out
  unfolding next_of
  next_alike rd' out e = rw e

  pub next_here : (out : List ℕ) → arrive_of vol m st rd ≡ record { reader = rd; more = Ok true } → next_of vol m st rd out ≡ take_of vol m st rd out
  unfolding next_of on_result pick
  next_here out e = rw e

  pub take_valid : (out : List ℕ) {n : ℕ} → record_here vol m st rd rd.index ≡ Ok (Some n)
      → take_of vol m st rd out ≡ record {
        out = over 0 (payload_of (sector_at vol (data_at st rd.chunk rd.index)) n) out;
        ans = tells (Ok (found.Payload n)) (moved_to rd rd.position (rd.index + 1));
      }
  unfolding take_of on_judged
  take_valid out e = rw e

  pub take_other : (out : List ℕ) → record_here vol m st rd rd.index ≡ Ok None → take_of vol m st rd out ≡ record { out = out; ans = hole_of vol m st rd }
  unfolding take_of on_judged
  take_other out e = rw e

  -- no valid record from `after` up to the limit
  pub search_none : (after limit : ℕ) → after ≤ limit → ((j : ℕ) → after ≤ j → j < limit → record_here vol m st rd j ≡ Ok None) → search_of vol m st rd after limit ≡ Ok limit
  unfolding search_of visits on_judged
  search_none after limit h none =
      walk_keeps (λ k t. search_step k t (record_here vol m st rd k)) (λ s. Ok limit) limit (λ k t. after ≤ k) (λ (r : Result ℕ Error). r ≡ Ok limit)
      (λ k t u b p q. omega (arith, p))
      (λ k t r b p q. let z : record_here vol m st rd k ≡ Ok None = none k p b in absurd (let y : ◌≡◌ {A = ℕ} 0 1 = cc in omega arith))
      (λ t p. refl) after tt h (le_refl after)

  pub hole_none : rd.end ≡ None → search_of vol m st rd (rd.index + 1) st.head.chunk ≡ Ok st.head.chunk → hole_of vol m st rd ≡ tells (Ok found.End) rd
  unfolding is_last limit_of
  hole_none e q =
      let size : ℕ = st.head.chunk in
      let ends : size ≡ limit_of rd.end size = sym (ap (λ (x : Option ℕ). limit_of x size) e) in
      let last : true ≡ is_last rd.end = sym (ap is_last e) in
      sym (hole_end vol m st rd ends refl q last (eq-eqb size size refl))
