-- 01, "Volume and medium record": "Each sector write takes one from writes left". So the writes that a call makes are writes left before it less writes
-- left after it, and this is how many they may be. A store of c chunks has 8 directory sectors and table_of c table sectors. Assumes nothing.
use Rattle.std.specs.Prelude.{ℕ, zero, suc, ◌+◌, ◌*◌, ◌≤◌, Bool}
use Rattle.le.specs.Choice.{pick}
use Rattle.medium.specs.declared.Medium.{Medium}
use Rattle.handles.specs.Handles.{table_of, body_of}

-- at most n writes from m to u
abbrev pub Most : ℕ → Medium → Medium → Type 0
Most n m u = m.left ≤ u.left + n

-- format, delete, delete_oldest: each body sector, and the header twice
abbrev pub commit_most : ℕ → ℕ
commit_most c = body_of c + 2

-- create: a commit, before which a rollover makes another. The later of two commits writes into the copy that was current before the first, so of the
-- directory at most the two sectors that they change; with the table and the header twice
abbrev pub create_most : Bool → ℕ → ℕ
create_most rolls c = pick rolls (commit_most c + (2 + table_of c + 2)) (commit_most c)

-- a record: its own write, after a commit where it takes another chunk, and after two where a file goes for it. Extending changes no directory sector,
-- so a later commit writes at most the one of the file that goes
abbrev pub per_record : Bool → ℕ → ℕ
per_record rolls c = pick rolls ((1 + table_of c + 2) + (1 + table_of c + 2) + 1) ((table_of c + 2) + 1)

-- n records in one call: what the first commit may write besides is the rest of the 8 directory sectors
unfoldable pub records_most : Bool → ℕ → ℕ → ℕ
records_most rolls c zero = 0
records_most rolls c (suc n) = pick rolls 7 8 + suc n * per_record rolls c
