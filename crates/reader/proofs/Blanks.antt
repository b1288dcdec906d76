-- S-4: the count of a hole's blank sectors. Each law is a way out of its function, over plain values. Assumes nothing.
use Rattle.std.specs.Int.{from_bool}
use mathlib.Core.Path.{◌≡◌, sym, ap, ◌∙◌}
use mathlib.Core.Bool.{Bool, true, false}
use mathlib.Core.List.{List}
use Prim.Native.Nat.{ℕ, ◌+◌, ◌-◌, ◌%◌, ◌≤◌, ◌<◌}
use native.Mathlib.Nat.{mod-lt}
use native.Mathlib.Omega.{arith}
use Rattle.le.specs.Tally.{tally}
use Rattle.le.proofs.Tallies.{tally_le, tally_yes, tally_no, tally_start}
use Rattle.medium.specs.Sector.{sectors_of}
use Rattle.handles.specs.declared.Store.{Store}
use Rattle.handles.specs.Handles.{store_ok}
use Rattle.handles.proofs.Laws.{store_facts}
use Rattle.record.specs.Record.{data_at}
use Rattle.record.proofs.Laws.{data_inside}
use Rattle.reader.specs.declared.Reader.{Reader}
use Rattle.reader.specs.Blank.{blank_at, blanks_of}
use Rattle.reader.proofs.Facts.{Reads}

-- ---- one sector

module _ (vol : List ℕ) (st : Store) (rd : Reader) (number : ℕ) where
  pub blank_inside : store_ok st (sectors_of vol) ≡ true → Reads rd st → data_at st rd.chunk (number % st.head.chunk) < sectors_of vol
  blank_inside ok r =
      let h = store_facts st (sectors_of vol) ok in
      data_inside st rd.chunk (number % st.head.chunk) (sectors_of vol) r.chunk (mod-lt number (omega (arith, h.head.size_least))) h.head.room

-- ---- the count

module _ (vol : List ℕ) (st : Store) (rd : Reader) (from to : ℕ) where
  abbrev pub among : ℕ → Bool
  among i = blank_at vol st rd (from + i)

  -- the numbers up to n are counted
  pub record Counted (blank n : ℕ) : Type 0 where
    pub low : from ≤ n
    pub most : n - from ≤ to - from
    pub is : blank ≡ tally among (n - from)

  pub count_start : Counted 0 from
  count_start =
      let z : from - from ≡ 0 = omega arith in
      record { low = omega arith; most = omega arith; is = rw (z, tally_start among) }

  module _ {blank n : ℕ} (c : Counted blank n) where
    count_step : (b : Bool) → among (n - from) ≡ b → blank + from_bool b ≡ tally among (n - from + 1)
    count_step true e = ap (λ (k : ℕ). k + 1) c.is ∙ sym (tally_yes among (n - from) e)
    count_step false e = let p : blank + 0 ≡ blank = omega arith in p ∙ c.is ∙ sym (tally_no among (n - from) e)

    -- at most one for each
    pub count_small : blank ≤ n - from
    count_small = rw c.is (tally_le among (n - from))

    pub count_next : {b : Bool} {one : ℕ} → n < to → b ≡ blank_at vol st rd n → one ≡ from_bool b → Counted (blank + one) (n + 1)
    count_next h a e =
        let l = c.low in
        let p : from + (n - from) ≡ n = omega arith in
        let q : n + 1 - from ≡ n - from + 1 = omega arith in
        record {
          low = omega arith;
          most = omega arith;
          is = rw (e, a, q) (count_step (blank_at vol st rd n) (ap (blank_at vol st rd) p));
        }

    pub count_end : to ≤ n → blank ≡ blanks_of vol st rd from to
    unfolding blanks_of
    count_end h =
        let l = c.low in
        let m = c.most in
        let p : n - from ≡ to - from = omega arith in
        c.is ∙ ap (tally among) p
