-- The starred edges of 01 that mount decides. Assumes nothing.
use Rattle.std.specs.Prelude.{None}
use Rattle.std.specs.Prelude.{Ok}
use mathlib.Core.Path.{◌≡◌, refl}
use mathlib.Core.Bool.{false}
use mathlib.Core.List.{List}
use Prim.Native.Nat.{ℕ, ◌+◌, ◌*◌, ◌/◌, ◌≤◌}
use native.Mathlib.Omega.{arith}
use borrow.Author.Tests.{le-ltb}
use Rattle.le.specs.Choice.{pick}
use Rattle.le.specs.Part.{zeros}
use Rattle.le.proofs.Parts.{length_zeros, part_zeros}
use Rattle.medium.specs.declared.Error.TheVariants.{Uninitialized}
use Rattle.medium.specs.declared.Medium.{Medium}
use Rattle.medium.specs.Refusal.{on_done, refused, outcome_of}
use Rattle.medium.specs.Sector.{sectors_of, sector_at, read_of}
use Rattle.freemap.specs.Map.{unfit_of}
use Rattle.handles.specs.declared.Header.{Header}
use Rattle.header.specs.declared.codec.Replica.TheVariants.{Absent}
use Rattle.header.specs.Header.{ours, bare}
use Rattle.header.specs.Copies.{is_foreign, copy_of, both_of, headers_of, takes_b, taken_of, no_current, choice_of, current_of, not_mounted, mount_of}
use Rattle.header.proofs.RoundTrip.{zeros_absent}

-- both copies are read, where nothing refuses
module _ (vol : List ℕ) (m : Medium) (enough : 64 ≤ sectors_of vol) (a : read_of m 0 ≡ Ok tt) (b : read_of m 32 ≡ Ok tt) where
  pub headers_read : is_foreign (copy_of vol 0).kind ≡ false → is_foreign (copy_of vol 32).kind ≡ false → headers_of vol m ≡ both_of (copy_of vol 0) (copy_of vol 32)
  unfolding headers_of pick on_done
  headers_read p q = rw (le-ltb (sectors_of vol) 64 enough, a, p, b, q)

  -- of two valid copies of one generation, A is taken
  pub equal_takes_a : (x y : Header) → copy_of vol 0 ≡ ours x → copy_of vol 32 ≡ ours y → x.generation ≡ y.generation
      → mount_of vol m ≡ record { outcome = Ok tt; store = record { copy = 0; head = x; writer = None; free = unfit_of } }
  unfolding mount_of current_of choice_of takes_b taken_of pick on_done
  equal_takes_a x y p q e =
      let t = headers_read (rw p refl) (rw q refl) in
      rw (t, p, q, le-ltb x.generation y.generation (omega arith))

-- a zeroed volume holds no store: 5
zero_copy : (n k : ℕ) → 512 * k + 512 ≤ n → copy_of (zeros n) k ≡ bare Absent
unfolding copy_of sector_at
zero_copy n k h = rw (part_zeros (512 * k) 512 n h) (zeros_absent (sectors_of (zeros n)))

pub zeroed_refused : (n : ℕ) (m : Medium) → 64 ≤ n / 512 → read_of m 0 ≡ Ok tt → read_of m 32 ≡ Ok tt
    → (mount_of (zeros n) m ≡ not_mounted Uninitialized) × (outcome_of (mount_of (zeros n) m).outcome ≡ refused 5)
unfolding mount_of current_of choice_of takes_b no_current pick on_done
zeroed_refused n m enough a b =
    let p = zero_copy n 0 (omega arith) in
    let q = zero_copy n 32 (omega arith) in
    let t = headers_read (zeros n) m (rw (length_zeros n) enough) a b (rw p refl) (rw q refl) in
    (rw (t, p, q), rw (t, p, q))
