-- S-4: "A hole then also carries how many of its sectors were blank, counted by that definition." A hole lies in one chunk, and there a record's
-- number says its index. Assumes nothing.
use Rattle.std.specs.Prelude.{ℕ, ◌+◌, ◌-◌, ◌%◌, Bool, List, Result, Ok, Err}
use Rattle.medium.specs.declared.Error.{Error}
use Rattle.le.specs.Tally.{tally}
use Rattle.medium.specs.Sector.{sector_at}
use Rattle.handles.specs.declared.Store.{Store}
use Rattle.record.specs.Record.{is_blank, data_at}
use Rattle.reader.specs.declared.Reader.{Reader}
use Rattle.reader.specs.declared.Found.{Found}
use Rattle.reader.specs.declared.Found.TheVariants as found
use Rattle.reader.specs.declared.Next.{Next}
use Rattle.reader.specs.declared.Next.TheVariants as item

-- the sector of a record of the reader's chunk is blank
unfoldable pub blank_at : List ℕ → Store → Reader → ℕ → Bool
blank_at vol st rd number = is_blank (sector_at vol (data_at st rd.chunk (number % st.head.chunk)))

-- how many of the records from..to are
unfoldable pub blanks_of : List ℕ → Store → Reader → ℕ → ℕ → ℕ
blanks_of vol st rd from to = tally (λ i. blank_at vol st rd (from + i)) (to - from)

-- what was found, with the reader behind it: a hole gets its count, all else is as it was
unfoldable pub counted_of : List ℕ → Store → Reader → Result Found Error → Result Next Error
counted_of vol st rd (Err e) = Err e
counted_of vol st rd (Ok (found.Payload n)) = Ok (item.Payload n)
counted_of vol st rd (Ok (found.Hole from to)) = Ok (item.Hole from to (blanks_of vol st rd from to))
counted_of vol st rd (Ok found.End) = Ok item.End
