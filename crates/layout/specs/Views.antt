-- 01, "Directory entry", "Link" and "Record": what the bytes of a mounted volume say, as functions of an index: the entry of a slot, the link of a
-- chunk, and the record that passes at an index of a chunk. Assumes nothing.
use Rattle.std.specs.Prelude.{ℕ, List, Result, Option, None, Some, Ok, Err}
use Rattle.medium.specs.declared.Error.{Error}
use Rattle.le.specs.Choice.{pick}
use Rattle.le.specs.Field.{get_le}
use Rattle.le.specs.Part.{part}
use Rattle.medium.specs.declared.Error.{Error}
use Rattle.medium.specs.Sector.{sector_at}
use Rattle.handles.specs.declared.Store.{Store}
use Rattle.directory.specs.declared.File.{File}
use Rattle.directory.specs.Entry.{entry_of, entry_at}
use Rattle.table.specs.declared.LinkAt.{LinkAt}
use Rattle.table.specs.Link.{link_held}
use Rattle.record.specs.Record.{carries_of, payload_of, data_at}

-- an entry: free, none that passes, or a file's name and id
pub data Entry : Type 0 where
  vacant : Entry
  broken : Entry
  named : List ℕ → ℕ → Entry

-- a data sector: no record of this store, or one with its file id, number and payload
pub data Rec : Type 0 where
  blank : Rec
  stored : ℕ → ℕ → List ℕ → Rec

-- sectors per chunk, chunks and next id of the header, and the three views
pub record Disk : Type 0 where
  pub size : ℕ
  pub chunks : ℕ
  pub next : ℕ
  pub entry : ℕ → Entry
  pub link : ℕ → Result LinkAt Error
  pub rec : ℕ → ℕ → Rec

unfoldable pub entry_view : List ℕ → Result (Option File) Error → Entry
entry_view bytes (Err e) = broken
entry_view bytes (Ok None) = vacant
entry_view bytes (Ok (Some f)) = named (part 0 f.len bytes) f.id

unfoldable pub link_view : List ℕ → Store → ℕ → Result LinkAt Error
link_view vol st c = link_held vol st c

-- a valid record of the store with this id, whatever file and number it has
unfoldable pub rec_view : ℕ → List ℕ → Rec
rec_view id sector = pick (carries_of id sector) (stored (get_le 4 12 sector) (get_le 4 16 sector) (payload_of sector (get_le 2 20 sector))) blank

-- the views of a volume by a store value
abbrev pub disk_of : List ℕ → Store → Disk
disk_of vol st =
    record {
      size = st.head.chunk;
      chunks = st.head.chunks;
      next = st.head.next_id;
      entry = λ s. entry_view (entry_at vol st s) (entry_of (entry_at vol st s));
      link = link_view vol st;
      rec = λ c i. rec_view st.head.id (sector_at vol (data_at st c i));
    }
