-- The definitions in numbers: stores of 1, 128, 129 and 2,048 chunks. Assumes nothing.
use Prim.Native.Nat.{ℕ, ◌+◌}
use mathlib.Core.Path.{◌≡◌, refl}
use mathlib.Core.Bool.{true, false}
use native.Mathlib.Omega.{arith}
use Rattle.le.specs.Choice.{pick}
use Rattle.handles.specs.Handles.{table_of}
use Rattle.writes.specs.Writes.{commit_most, create_most, records_most}

-- one record: a commit and its own write; with a rollover a second commit, that writes one directory sector
pub record_plain : (c : ℕ) → records_most false c 1 ≡ commit_most c + 1
unfolding records_most pick
record_plain c = omega arith

pub record_over : (c : ℕ) → records_most true c 1 ≡ commit_most c + (1 + table_of c + 2) + 1
unfolding records_most pick
record_over c = omega arith

-- format, delete, delete_oldest; create; one record; three records: with no rollover, and with one
pub record Numbers (c commit created one three created_over one_over three_over : ℕ) : Type 0 where
  pub commits : commit_most c ≡ commit
  pub creates : create_most false c ≡ created
  pub creates_over : create_most true c ≡ created_over
  pub records : (records_most false c 0 ≡ 0) × (records_most false c 1 ≡ one) × (records_most false c 3 ≡ three)
  pub records_over : (records_most true c 0 ≡ 0) × (records_most true c 1 ≡ one_over) × (records_most true c 3 ≡ three_over)

pub least : Numbers 1 11 11 12 20 16 16 34
unfolding records_most pick
least = record { commits = refl; creates = refl; creates_over = refl; records = (refl, refl, refl); records_over = (refl, refl, refl) }

pub full_sector : Numbers 128 11 11 12 20 16 16 34
unfolding records_most pick
full_sector = record { commits = refl; creates = refl; creates_over = refl; records = (refl, refl, refl); records_over = (refl, refl, refl) }

pub second_sector : Numbers 129 12 12 13 23 18 18 40
unfolding records_most pick
second_sector = record { commits = refl; creates = refl; creates_over = refl; records = (refl, refl, refl); records_over = (refl, refl, refl) }

pub most : Numbers 2048 26 26 27 65 46 46 124
unfolding records_most pick
most = record { commits = refl; creates = refl; creates_over = refl; records = (refl, refl, refl); records_over = (refl, refl, refl) }
