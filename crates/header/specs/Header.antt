-- 01, "Header": one header sector. It holds, from byte 0 on, the magic; at 16 version 1; at 18 the number 8; at 20 the table sectors; at 24 the
-- store id; at 32 the generation; at 40 the next file id; at 44 the cursor; at 48 the chunks; at 52 the sectors per chunk; from 64 on one checksum
-- for each body sector; at 508 the CRC of the bytes before it. All else is 0. A sector without the magic holds no copy, one whose CRC fails a
-- damaged copy, and one whose numbers or zeros are not as here a foreign copy. Assumes nothing.
use Rattle.std.specs.Prelude.{ℕ, zero, suc, ◌+◌, ◌-◌, ◌*◌, ◌^◌, ◌<◌, ◌≤◌, ◌≡◌, Bool, ◌&&◌, List, [], ◌∷◌, ◌++◌, eqb, length, get_or, take}
use Rattle.le.specs.Choice.{pick}
use Rattle.le.specs.Part.{part, over, zeros}
use Rattle.le.specs.Field.{le_bytes, get_le}
use Rattle.le.specs.Layout.{Put, put, put_all}
use Rattle.runs.specs.Run.{starts_with, all_zero}
use Rattle.seal.specs.Seal.{sealed, is_sealed}
use Rattle.handles.specs.declared.Header.{Header}
use Rattle.handles.specs.Handles.{table_of, body_of, sane_of, blank_of}
use Rattle.header.specs.declared.codec.Decoded.{Decoded}
use Rattle.header.specs.declared.codec.Replica.{Replica}
use Rattle.header.specs.declared.codec.Replica.TheVariants.{Ours, Foreign, Damaged, Absent}

-- CYCLING-STORE and three zeros
unfoldable pub magic : List ℕ
magic = 67 ∷ 89 ∷ 67 ∷ 76 ∷ 73 ∷ 78 ∷ 71 ∷ 45 ∷ 83 ∷ 84 ∷ 79 ∷ 82 ∷ 69 ∷ 0 ∷ 0 ∷ 0 ∷ []

-- ---- what is written

-- the fields after the magic: width, offset, value
unfoldable pub fields_of : Header → List Put
fields_of h =
    put 2 16 1 ∷ put 2 18 8 ∷ put 2 20 (table_of h.chunks)
    ∷ put 8 24 h.id ∷ put 8 32 h.generation
    ∷ put 4 40 h.next_id ∷ put 4 44 h.cursor ∷ put 4 48 h.chunks ∷ put 4 52 h.chunk
    ∷ []

-- numbers of four bytes each, one after another
unfoldable pub words : List ℕ → List ℕ
words [] = []
words (x ∷ xs) = le_bytes 4 x ++ words xs

-- the sector before its CRC is put in
unfoldable pub content_of : Header → List ℕ
content_of h = over 64 (words (take (body_of h.chunks) h.crcs)) (put_all (fields_of h) (magic ++ zeros 496))

-- the header sector
unfoldable pub encode_of : Header → List ℕ
encode_of h = sealed (content_of h)

-- format's first image: the same sector with its first 16 bytes blanked, so that its CRC is that of the header with the magic
unfoldable pub unmarked_of : Header → List ℕ
unmarked_of h = over 0 (zeros 16) (encode_of h)

-- ---- what is found

-- bytes a to e - 1 are 0
unfoldable pub zero_from : ℕ → ℕ → List ℕ → Bool
zero_from a e l = all_zero (part a (e - a) l)

-- the version, the 8, the table count of so many chunks, and the bytes that must be 0
unfoldable pub fixed_ok : List ℕ → ℕ → Bool
fixed_ok l chunks =
    eqb (get_le 2 16 l) 1 && (eqb (get_le 2 18 l) 8 && (eqb (get_le 2 20 l) (table_of chunks)
    && (zero_from 22 24 l && (zero_from 56 64 l && zero_from (64 + 4 * body_of chunks) 508 l))))

-- n numbers of four bytes each, from offset o on
unfoldable pub numbers_at : ℕ → ℕ → List ℕ → List ℕ
numbers_at zero o l = []
numbers_at (suc n) o l = get_le 4 o l ∷ numbers_at n (o + 4) l

-- the checksums of n body sectors, and zeros up to 24
unfoldable pub crcs_of : ℕ → List ℕ → List ℕ
crcs_of n l = numbers_at n 64 l ++ zeros (24 - n)

-- the numbers of a sector
unfoldable pub head_of : List ℕ → Header
head_of l =
    record {
      id = get_le 8 24 l;
      generation = get_le 8 32 l;
      next_id = get_le 4 40 l;
      cursor = get_le 4 44 l;
      chunks = get_le 4 48 l;
      chunk = get_le 4 52 l;
      crcs = crcs_of (body_of (get_le 4 48 l)) l;
    }

-- a header with other checksums
abbrev pub with_crcs : Header → List ℕ → Header
with_crcs h crcs =
    record { id = h.id; generation = h.generation; next_id = h.next_id; cursor = h.cursor; chunks = h.chunks; chunk = h.chunk; crcs = crcs }

-- a copy that is valid, and a kind with no header
abbrev pub ours : Header → Decoded
ours h = record { kind = Ours; head = h }

abbrev pub bare : Replica → Decoded
bare k = record { kind = k; head = blank_of }

-- the copy in a sector of a volume of so many sectors
unfoldable pub decode_of : List ℕ → ℕ → Decoded
decode_of l sectors =
    pick (starts_with magic l)
    (pick (is_sealed l)
    (pick (sane_of (head_of l) sectors && fixed_ok l (get_le 4 48 l)) (ours (head_of l)) (bare Foreign))
    (bare Damaged))
    (bare Absent)

-- a list of bytes
abbrev pub Bytes : List ℕ → Type 0
Bytes l = (i : ℕ) → get_or l i 0 < 256

-- a header whose numbers have their widths, with no checksum past its body: what a sector can hold
pub record InRange (h : Header) : Type 0 where
  pub id : h.id < 2 ^ 64
  pub generation : h.generation < 2 ^ 64
  pub next : h.next_id < 2 ^ 32
  pub cursor : h.cursor < 2 ^ 32
  pub chunks : h.chunks < 2 ^ 32
  pub chunk : h.chunk < 2 ^ 32
  pub count : length h.crcs ≡ 24
  pub crcs : (i : ℕ) → get_or h.crcs i 0 < 2 ^ 32
  pub past : (i : ℕ) → body_of h.chunks ≤ i → get_or h.crcs i 0 ≡ 0
