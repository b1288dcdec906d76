-- A line gathered from the input, byte by byte. Assumes nothing.
use Rattle.std.specs.Prelude.{is_some, unwrap_or}
use Prim.Native.Nat.{ℕ, ◌+◌, ◌≤◌, ◌<◌}
use mathlib.Core.Path.{◌≡◌, sym, ap}
use mathlib.Core.Bool.{true, false}
use mathlib.Core.List.{List}
use native.Mathlib.Numerals.{add-one}
use native.Mathlib.Omega.{arith}
use borrow.Author.Tests.{eq-eqb, ne_eqb, lt-ltb, le-ltb}
use lib.ListN.{length, take, drop, get_or, set}
use lib.Seq.{length-take-le, take-suc-set}
use Rattle.le.specs.Choice.{pick}
use Rattle.le.proofs.Turns.{drop_one, drop_end}
use Rattle.lines.specs.declared.input.Gathered.{Gathered}
use Rattle.lines.specs.Input.{kept_of, Gathering, gather_of, GatheredAt}

module _ (line : List ℕ) (fill b : ℕ) where
  pub keep_more : fill < 601 → 601 ≤ length line → take (fill + 1) (set line fill b) ≡ kept_of (take fill line) b
  unfolding kept_of pick
  keep_more h r = rw (length-take-le fill line (omega arith), lt-ltb fill 601 h, add-one) (take-suc-set line fill b (omega arith))

  pub keep_none : 601 ≤ fill → fill ≤ length line → take fill line ≡ kept_of (take fill line) b
  unfolding kept_of pick
  keep_none h r = rw (length-take-le fill line r, le-ltb fill 601 h)

-- ---- one turn of the loop

module _ (line bytes : List ℕ) (i : ℕ) where
  pub gather_end : i < length bytes → get_or bytes i 0 ≡ 10 → gather_of line (drop i bytes) ≡ record { line = line; ended = true; rest = drop (i + 1) bytes }
  unfolding gather_of pick
  gather_end h e = rw (drop_one bytes i h, eq-eqb (get_or bytes i 0) 10 e)

  pub gather_more : i < length bytes → (get_or bytes i 0 ≡ 10 → ⊥) → gather_of line (drop i bytes) ≡ gather_of (kept_of line (get_or bytes i 0)) (drop (i + 1) bytes)
  unfolding gather_of pick
  gather_more h e = rw (drop_one bytes i h, ne_eqb (get_or bytes i 0) 10 e)

  pub gather_none : length bytes ≤ i → gather_of line (drop i bytes) ≡ record { line = line; ended = false; rest = drop (length bytes) bytes }
  unfolding gather_of
  gather_none h = rw (drop_end bytes i h, drop_end bytes (length bytes) (omega arith))

-- what the code gives, as places
pub gathered : (bytes line : List ℕ) (r : Gathered) {g : Gathering}
    → g ≡ record { line = take r.fill line; ended = is_some r.next; rest = drop (unwrap_or r.next (length bytes)) bytes }
    → unwrap_or r.next (length bytes) ≤ length bytes → r.fill ≤ 601 → GatheredAt r bytes line g
gathered bytes line r e h k = (sym (ap (λ (x : Gathering). x.line) e), sym (ap (λ (x : Gathering). x.ended) e), sym (ap (λ (x : Gathering). x.rest) e), h, k)
