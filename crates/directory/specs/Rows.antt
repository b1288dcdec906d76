-- 01, "Directory entry": `list` follows slot order and fills 48-byte rows: name, id, chunks. Rows made before a refusal stay. Assumes nothing.
use Rattle.std.specs.Prelude.{Err, Ok, Result}
use Rattle.medium.specs.declared.Error.{Error}
use Rattle.std.specs.Prelude.{ℕ, ◌+◌, ◌-◌, ◌*◌, List, ◌++◌, length, get_or}
use Rattle.le.specs.Choice.{pick}
use Rattle.le.specs.Field.{le_bytes}
use Rattle.le.specs.Part.{over, zeros}
use Rattle.names.specs.Names.{in_dir}
use Rattle.medium.specs.declared.Medium.{Medium}
use Rattle.handles.specs.declared.Store.{Store}
use Rattle.walk.specs.Walk.{next}
use Rattle.directory.specs.declared.Rows.{Rows}
use Rattle.directory.specs.Scan.{Visitor, scan_of}

-- a row: the name with zeros to 40, the id and the chunks
unfoldable pub row_of : List ℕ → ℕ → ℕ → List ℕ
row_of name id chunks = name ++ zeros (40 - length name) ++ (le_bytes 4 id ++ le_bytes 4 chunks)

-- the lent rows, and how many of them are made
pub record Made : Type 0 where
  pub rows : List ℕ
  pub count : ℕ

-- one row more
unfoldable pub row_made : List ℕ → ℕ → ℕ → Made → Made
row_made name id chunks s = record { rows = over (48 * s.count) (row_of name id chunks) s.rows; count = s.count + 1 }

pub record RowsOut : Type 0 where
  pub outcome : Result Unit Error
  pub made : Made

-- the answer, beside what the lent rows hold
abbrev pub rows_told : Rows → List ℕ → RowsOut
rows_told r rows = record { outcome = r.outcome; made = record { rows = rows; count = r.count } }

-- the files in a directory, with the counts of their slots
abbrev pub listing : List ℕ → List ℕ → Visitor Made RowsOut
listing dir counts =
    record {
      refuse = λ e s. record { outcome = Err e; made = s };
      free = λ i s. next s;
      file = λ i id n s. next (pick (in_dir dir n) (row_made n id (get_or counts i 0) s) s);
      done = λ s. record { outcome = Ok tt; made = s };
    }

unfoldable pub rows_of : List ℕ → Medium → Store → List ℕ → List ℕ → List ℕ → RowsOut
rows_of vol m st dir counts rows = scan_of (listing dir counts) vol m st (record { rows = rows; count = 0 })
