-- 01, "Commit", "Directory entry" and "Link": what a commit changes, as a named edit of the body. Assumes nothing.
use Rattle.std.specs.Prelude.{ℕ, ◌+◌, ◌*◌, ◌/◌, ◌%◌, ◌^◌, ◌<◌, Bool, true, false, ◌&&◌, ◌||◌, List, eqb, leb}
use Rattle.le.specs.Choice.{pick}
use Rattle.le.specs.Part.{over, zeros}
use Rattle.handles.specs.declared.Header.{Header}
use Rattle.directory.specs.Entry.{entry_bytes}
use Rattle.table.specs.declared.Link.{Link}
use Rattle.table.specs.Link.{link_bytes, cleared_of}
use Rattle.plan.specs.declared.Edit.{Edit}
use Rattle.plan.specs.declared.Edit.TheVariants.{Format, Create, Extend, Remove}

-- the body sector of a slot's entry, and of a chunk's link
abbrev pub slot_sector : ℕ → ℕ
slot_sector slot = slot / 8

abbrev pub link_sector : ℕ → ℕ
link_sector chunk = 8 + chunk / 128

-- body sector k is among those that change
unfoldable pub changes_of : Edit → ℕ → Bool
changes_of Format k = true
changes_of (Create slot id chunk) k = eqb k (slot_sector slot) || eqb k (link_sector chunk)
changes_of (Extend slot position next last partial records) k = eqb k (link_sector next) || (partial && eqb k (link_sector last))
changes_of (Remove slot) k = eqb k (slot_sector slot) || leb 8 k

-- the entry of a slot, and the link of a chunk, put where sector k has them
unfoldable pub entry_put : ℕ → ℕ → List ℕ → List ℕ → List ℕ
entry_put k slot bytes s = pick (eqb k (slot_sector slot)) (over (64 * (slot % 8)) bytes s) s

unfoldable pub link_put : ℕ → ℕ → Link → List ℕ → List ℕ
link_put k chunk link s = pick (eqb k (link_sector chunk)) (over (4 * (chunk % 128)) (link_bytes link) s) s

-- a new link, and one marked partial with its records
abbrev pub plain_link : ℕ → ℕ → Link
plain_link slot position = record { slot = slot; position = position; partial = false; records = 0 }

abbrev pub partial_link : ℕ → ℕ → ℕ → Link
partial_link slot position records = record { slot = slot; position = position; partial = true; records = records }

-- a slot cleared: its entry, or in a table sector every link of it, whatever else the link holds
unfoldable pub slot_cleared : ℕ → ℕ → List ℕ → List ℕ
slot_cleared k slot s = pick (leb 8 k) (cleared_of slot s) (entry_put k slot (zeros 64) s)

-- what becomes of sector k. A name goes with the edit of create. Extending puts the new link first and the partial mark after it
unfoldable pub edit_of : Edit → List ℕ → ℕ → List ℕ → List ℕ
edit_of Format name k s = zeros 512
edit_of (Create slot id chunk) name k s = link_put k chunk (plain_link slot 0) (entry_put k slot (entry_bytes name id) s)
edit_of (Extend slot position next last partial records) name k s =
    let linked : List ℕ = link_put k next (plain_link slot (position + 1)) s in
    pick partial (link_put k last (partial_link slot position records) linked) linked
edit_of (Remove slot) name k s = slot_cleared k slot s

-- the sector as it is to be: edited where it is among those that change
abbrev pub edited_of : Edit → List ℕ → ℕ → List ℕ → List ℕ
edited_of e name k s = pick (changes_of e k) (edit_of e name k s) s

-- the numbers of the header after it: the cursor is the chunk after the one taken, going round
unfoldable pub next_after : Edit → Header → ℕ
next_after (Create slot id chunk) h = id + 1
next_after Format h = h.next_id
next_after (Extend slot position next last partial records) h = h.next_id
next_after (Remove slot) h = h.next_id

unfoldable pub cursor_after : Edit → Header → ℕ
cursor_after (Create slot id chunk) h = (chunk + 1) % h.chunks
cursor_after (Extend slot position next last partial records) h = (next + 1) % h.chunks
cursor_after Format h = h.cursor
cursor_after (Remove slot) h = h.cursor

unfoldable pub head_after : Edit → Header → Header
head_after e h =
    record {
      id = h.id;
      generation = h.generation + 1;
      next_id = next_after e h;
      cursor = cursor_after e h;
      chunks = h.chunks;
      chunk = h.chunk;
      crcs = h.crcs;
    }

-- an edit whose numbers are those of a store with so many chunks; a commit is asked only for such
abbrev pub Fits : Edit → ℕ → Type 0
Fits Format chunks = Unit
Fits (Create slot id chunk) chunks = (slot < 64) × (id + 1 < 2 ^ 32) × (chunk < chunks)
Fits (Extend slot position next last partial records) chunks =
    (slot < 64) × (position + 1 < 32768) × (next < chunks) × (last < chunks) × (records < 512)
Fits (Remove slot) chunks = slot < 64
