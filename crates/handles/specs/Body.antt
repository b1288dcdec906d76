-- 01, "Header" and refusals 4 and 7: body sector k of the copy that a store value names. Assumes nothing.
use Rattle.std.specs.Prelude.{Err, Ok, Result}
use Rattle.medium.specs.declared.Error.{Error}
use Rattle.std.specs.Prelude.{ℕ, ◌+◌, Bool, List, eqb, get_or}
use Rattle.le.specs.Choice.{pick}
use Rattle.checksum.specs.Crc.{crc32_of}
use Rattle.medium.specs.declared.Error.TheVariants.{Corrupt}
use Rattle.medium.specs.declared.Medium.{Medium}
use Rattle.medium.specs.Refusal.{on_done}
use Rattle.medium.specs.Sector.{sector_at, read_of}
use Rattle.handles.specs.declared.Store.{Store}
use Rattle.handles.specs.Handles.{base_of}

-- its number, right after the header
abbrev pub body_at : Store → ℕ → ℕ
body_at st k = base_of st.copy + 1 + k

-- it reads, and the header lists its checksum
unfoldable pub check_of : List ℕ → Medium → Store → ℕ → Result Unit Error
check_of vol m st k =
    on_done (read_of m (body_at st k))
    (pick (eqb (crc32_of (sector_at vol (body_at st k))) (get_or st.head.crcs k 0)) (Ok tt) (Err Corrupt))
    Err

-- the check where a walk enters the sector
unfoldable pub due_of : List ℕ → Medium → Store → Bool → ℕ → Result Unit Error
due_of vol m st enters k = pick enters (check_of vol m st k) (Ok tt)
