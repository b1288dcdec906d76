-- 01, "Link": low 7 bits of the first u16: slot + 1; upper 9: records of a partial chunk. Second u16: position, top bit set for partial. A zero
-- link is free; past the last chunk it must be zero. Slots are 0 to 63; records are below chunk size, 0 unless partial. Assumes nothing.
use Rattle.std.specs.Prelude.{ℕ, ◌+◌, ◌-◌, ◌*◌, ◌/◌, ◌%◌, Bool, ◌&&◌, ◌||◌, List, ◌++◌, eqb, leb, ltb, Result, Ok, Err}
use Rattle.le.specs.Choice.{pick}
use Rattle.le.specs.Part.{part, over, zeros}
use Rattle.le.specs.Field.{le_bytes, get_le}
use Rattle.medium.specs.declared.Error.{Error}
use Rattle.medium.specs.declared.Error.TheVariants.{Corrupt}
use Rattle.medium.specs.declared.Medium.{Medium}
use Rattle.medium.specs.Refusal.{on_done}
use Rattle.medium.specs.Sector.{sector_at}
use Rattle.handles.specs.declared.Store.{Store}
use Rattle.handles.specs.Body.{body_at, due_of}
use Rattle.walk.specs.Walk.{next, visits}
use Rattle.table.specs.declared.Link.{Link}
use Rattle.table.specs.declared.LinkAt.{LinkAt}
use Rattle.table.specs.declared.LinkAt.TheVariants.{Past, Free, Linked}

-- the two numbers of a link, and its 4 bytes
unfoldable pub owner_of : Link → ℕ
owner_of l = l.slot + 1 + 128 * l.records

unfoldable pub place_of : Link → ℕ
place_of l = l.position + pick l.partial 32768 0

unfoldable pub link_bytes : Link → List ℕ
link_bytes l = le_bytes 2 (owner_of l) ++ le_bytes 2 (place_of l)

-- numbers that a chunk of the store may have: a slot of 0 to 63, and records below the chunk size, 0 unless partial
unfoldable pub link_fits : ℕ → ℕ → ℕ → Bool
link_fits owner place size =
    (leb 1 (owner % 128) && leb (owner % 128) 64) && (ltb (owner / 128) size && (leb 32768 place || eqb (owner / 128) 0))

-- what two numbers say of a chunk that is inside the store, or past its last
unfoldable pub link_of : ℕ → ℕ → Bool → ℕ → Result LinkAt Error
link_of owner place inside size =
    pick (eqb owner 0 && eqb place 0) (pick inside (Ok Free) (Ok Past))
    (pick (inside && link_fits owner place size)
    (Ok (Linked (record { slot = owner % 128 - 1; position = place % 32768; partial = leb 32768 place; records = owner / 128 })))
    (Err Corrupt))

-- the same of the 4 bytes
unfoldable pub link_in : List ℕ → Bool → ℕ → Result LinkAt Error
link_in bytes inside size = link_of (get_le 2 0 bytes) (get_le 2 2 bytes) inside size

-- the bytes of a chunk's link: 128 links to a sector, from body sector 8 on
unfoldable pub link_part : List ℕ → Store → ℕ → List ℕ
link_part vol st c = part (4 * (c % 128)) 4 (sector_at vol (body_at st (8 + c / 128)))

-- what a chunk's link says as bytes: its sector's checksum is not asked
abbrev pub link_held : List ℕ → Store → ℕ → Result LinkAt Error
link_held vol st c = link_in (link_part vol st c) (ltb c st.head.chunks) st.head.chunk

-- what a walk finds of chunk c: the sector is checked at its first link
unfoldable pub link_at : List ℕ → Medium → Store → ℕ → Result LinkAt Error
link_at vol m st c = on_done (due_of vol m st (eqb (c % 128) 0) (8 + c / 128)) (link_held vol st c) Err

-- the low 7 bits are slot + 1, whatever else the link holds
unfoldable pub owned_by : ℕ → List ℕ → Bool
owned_by slot bytes = eqb (get_le 2 0 bytes % 128) (slot + 1)

-- a sector of the table with its link i zeroed where it is the slot's, and with all of them
unfoldable pub clear_link : ℕ → ℕ → List ℕ → List ℕ
clear_link slot i l = pick (owned_by slot (part (4 * i) 4 l)) (over (4 * i) (zeros 4) l) l

unfoldable pub cleared_of : ℕ → List ℕ → List ℕ
cleared_of slot l = visits (λ i s k. next (clear_link slot k s)) (λ i. i) (λ s. s) 128 0 l
