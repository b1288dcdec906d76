-- 01, "Header" and refusals 3 and 10: the numbers of a header, which store values no call accepts, and the open file. 02, S-3: the rule for the map.
-- Assumes nothing.
use Rattle.std.specs.Prelude.{ℕ, ◌+◌, ◌*◌, ◌/◌, Bool, true, false, not, ◌&&◌, ltb, leb, eqb, Option, None, Some}
use Rattle.le.specs.Choice.{pick}
use Rattle.le.specs.Part.{zeros}
use Rattle.freemap.specs.Map.{unfit_of, map_ok}
use Rattle.handles.specs.declared.Header.{Header}
use Rattle.handles.specs.declared.Store.{Store}
use Rattle.handles.specs.declared.Writer.{Writer}

-- table sectors = chunks / 128 rounded up
abbrev pub table_of : ℕ → ℕ
table_of chunks = (chunks + 127) / 128

-- the body is 8 directory sectors and the table
abbrev pub body_of : ℕ → ℕ
body_of chunks = 8 + table_of chunks

-- sector 0 is copy A, 32 copy B
unfoldable pub base_of : ℕ → ℕ
base_of copy = pick (eqb copy 0) 0 32

-- the numbers of a header that is not foreign on a volume of so many sectors. That chunks × size fits S − 64 is tested as a sum, which no
-- small S can take below 0
unfoldable pub sane_of : Header → ℕ → Bool
sane_of h sectors =
    not (eqb h.id 0) && (not (eqb h.next_id 0) && (ltb h.cursor h.chunks
    && ((leb 1 h.chunks && leb h.chunks 2048)
    && ((leb 1 h.chunk && leb h.chunk 512) && leb (64 + h.chunks * h.chunk) sectors))))

-- a store value that passes refusal 3; by S-3 its map too
unfoldable pub store_ok : Store → ℕ → Bool
store_ok st sectors = ltb st.copy 2 && (sane_of st.head sectors && map_ok st.free st.head.chunks)

-- the writer that has this token and this file
abbrev pub opened_by : ℕ → ℕ → Option Writer
opened_by token id = Some (record { token = token; id = id })

-- the file that is open, if any
abbrev pub open_file : Option Writer → Option ℕ
open_file None = None
open_file (Some w) = Some w.id

-- the open file is that of the open appender: whether there is one, and its id
abbrev pub is_open : Option Writer → Bool
is_open None = false
is_open (Some w) = true

abbrev pub open_id : Option Writer → ℕ
open_id None = 0
open_id (Some w) = w.id

-- zeros where there is no header, and a store value that no call accepts
unfoldable pub blank_of : Header
blank_of = record { id = 0; generation = 0; next_id = 0; cursor = 0; chunks = 0; chunk = 0; crcs = zeros 24 }

unfoldable pub no_store : Store
no_store = record { copy = 0; head = blank_of; writer = None; free = unfit_of }
