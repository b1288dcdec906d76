-- 01, "Directory entry": 64 bytes: name, zeros to 40, file id (not 0) at 40, zeros. All zeros is free. Assumes nothing.
use Rattle.std.specs.Prelude.{ℕ, ◌-◌, ◌*◌, ◌/◌, ◌%◌, Bool, not, ◌&&◌, List, eqb, Option, None, Some, Result, Ok, Err}
use Rattle.le.specs.Choice.{pick}
use Rattle.le.specs.Field.{get_le, put_le}
use Rattle.le.specs.Part.{part, over, zeros}
use Rattle.runs.specs.Run.{all_zero}
use Rattle.names.specs.Names.{name_ok, text_len}
use Rattle.medium.specs.declared.Error.{Error}
use Rattle.medium.specs.declared.Error.TheVariants.{Corrupt}
use Rattle.medium.specs.declared.Medium.{Medium}
use Rattle.medium.specs.Refusal.{on_done}
use Rattle.medium.specs.Sector.{sector_at}
use Rattle.handles.specs.declared.Store.{Store}
use Rattle.handles.specs.Body.{body_at, due_of}
use Rattle.directory.specs.declared.File.{File}

-- the entry of a file, made
unfoldable pub entry_bytes : List ℕ → ℕ → List ℕ
entry_bytes name id = put_le 4 40 id (over 0 name (zeros 64))

-- bytes of the name: those of the first 40 before a zero
unfoldable pub len_of : List ℕ → ℕ
len_of e = text_len (part 0 40 e)

-- what an entry that is not free must meet
unfoldable pub entry_ok : List ℕ → Bool
entry_ok e =
    name_ok (part 0 (len_of e) e) && (all_zero (part (len_of e) (40 - len_of e) e)
    && (not (eqb (get_le 4 40 e) 0) && all_zero (part 44 20 e)))

-- an entry that holds a file, with the length of its name
abbrev pub file_of : ℕ → ℕ → Result (Option File) Error
file_of id len = Ok (Some (record { id = id; len = len }))

-- what an entry holds: no file where it is free
unfoldable pub entry_of : List ℕ → Result (Option File) Error
entry_of e = pick (all_zero e) (Ok None) (pick (entry_ok e) (file_of (get_le 4 40 e) (len_of e)) (Err Corrupt))

-- the entry of slot i, eight to a sector from the body's first on
unfoldable pub entry_at : List ℕ → Store → ℕ → List ℕ
entry_at vol st i = part (64 * (i % 8)) 64 (sector_at vol (body_at st (i / 8)))

-- what a walk finds at slot i: the sector is checked at its first entry
unfoldable pub slot_at : List ℕ → Medium → Store → ℕ → Result (Option File) Error
slot_at vol m st i = on_done (due_of vol m st (eqb (i % 8) 0) (i / 8)) (entry_of (entry_at vol st i)) Err
