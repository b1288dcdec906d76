-- The invariant of demand 3 on the views: which chunks a file has and which payloads stand in them, as a layout beside the views: for each slot the
-- segments of its file in order, none where the slot is vacant. Assumes nothing.
use Rattle.std.specs.Prelude.{ℕ, ◌+◌, ◌*◌, ◌≤◌, ◌<◌, ◌≡◌, ◌⊎◌, Bool, true, false, ◌||◌, List, [], ◌∷◌, ◌++◌, eqb, length, get_or, Result, Ok, Err}
use Rattle.le.specs.Choice.{pick}
use Rattle.le.specs.Tally.{tally}
use Rattle.medium.specs.declared.Error.{Error}
use Rattle.table.specs.declared.Link.{Link}
use Rattle.table.specs.declared.LinkAt.{LinkAt}
use Rattle.table.specs.declared.LinkAt.TheVariants as link
use Rattle.table.specs.Table.{links_of}
use Rattle.layout.specs.Views.{vacant, broken, named, stored, Disk}

-- a chunk of a file, with the payloads in it
pub record Segment : Type 0 where
  pub chunk : ℕ
  pub payloads : List (List ℕ)

abbrev pub no_segment : Segment
no_segment = record { chunk = 0; payloads = [] }

abbrev pub segment_at : List Segment → ℕ → Segment
segment_at g p = get_or g p no_segment

-- the payloads of a file, in order
abbrev pub payloads_of : List Segment → List (List ℕ)
payloads_of [] = []
payloads_of (s ∷ g) = s.payloads ++ payloads_of g

-- the link of the chunk at position p: no mark on the last chunk and on a full one, else the count of its records
unfoldable pub link_for : ℕ → ℕ → List Segment → ℕ → Link
link_for size slot g p =
    let n : ℕ = length (segment_at g p).payloads in
    pick (eqb (p + 1) (length g) || eqb n size)
    (record { slot = slot; position = p; partial = false; records = 0 })
    (record { slot = slot; position = p; partial = true; records = n })

-- the link of a chunk is of the slot
unfoldable pub is_of : ℕ → Result LinkAt Error → Bool
is_of slot (Err e) = false
is_of slot (Ok link.Past) = false
is_of slot (Ok link.Free) = false
is_of slot (Ok (link.Linked l)) = eqb l.slot slot

-- a place in a file where a record of it may stand
pub record Placed (g : List Segment) (c i : ℕ) : Type 0 where
  pub position : ℕ
  pub in_file : position < length g
  pub there : (segment_at g position).chunk ≡ c
  pub filled : i < length (segment_at g position).payloads

-- a link that the table holds is one of the layout
pub record Owned (D : Disk) (G : ℕ → List Segment) (c : ℕ) (l : Link) : Type 0 where
  pub slot : l.slot < 64
  pub in_file : l.position < length (G l.slot)
  pub there : (segment_at (G l.slot) l.position).chunk ≡ c

-- views and layout agree
pub record Good (D : Disk) (G : ℕ → List Segment) : Type 0 where
  -- the directory: no entry is broken; ids and names of different slots differ; ids are below the next
  pub whole : (s : ℕ) → s < 64 → D.entry s ≡ broken → ⊥
  pub free : (s : ℕ) → s < 64 → D.entry s ≡ vacant → G s ≡ []
  pub held : (s : ℕ) (n : List ℕ) (i : ℕ) → s < 64 → D.entry s ≡ named n i → 1 ≤ length (G s)
  pub older : (s : ℕ) (n : List ℕ) (i : ℕ) → s < 64 → D.entry s ≡ named n i → i < D.next
  pub ids : (s t : ℕ) (n m : List ℕ) (i j : ℕ) → s < 64 → t < 64 → D.entry s ≡ named n i → D.entry t ≡ named m j → i ≡ j → s ≡ t
  pub names : (s t : ℕ) (n m : List ℕ) (i j : ℕ) → s < 64 → t < 64 → D.entry s ≡ named n i → D.entry t ≡ named m j → n ≡ m → s ≡ t
  -- the table: each segment's chunk has its link, each link is a segment's, past the last chunk there is none, and each slot has as many as segments
  pub inside : (s p : ℕ) → s < 64 → p < length (G s) → (segment_at (G s) p).chunk < D.chunks
  pub linked : (s p : ℕ) → s < 64 → p < length (G s) → D.link (segment_at (G s) p).chunk ≡ Ok (link.Linked (link_for D.size s (G s) p))
  pub owned : (c : ℕ) (l : Link) → c < D.chunks → D.link c ≡ Ok (link.Linked l) → Owned D G c l
  pub either : (c : ℕ) → c < D.chunks → (D.link c ≡ Ok link.Free) ⊎ ((l : Link) × (D.link c ≡ Ok (link.Linked l)))
  pub past : (c : ℕ) → D.chunks ≤ c → c < links_of D.chunks → D.link c ≡ Ok link.Past
  pub counted : (s : ℕ) → s < 64 → tally (λ c. is_of s (D.link c)) D.chunks ≡ length (G s)
  -- the records: each payload stands where it belongs; a record of a live file stands in a segment of it, and no record has an id to come
  pub fits : (s p : ℕ) → s < 64 → p < length (G s) → length (segment_at (G s) p).payloads ≤ D.size
  pub written : (s p i : ℕ) (n : List ℕ) (id : ℕ) → s < 64 → D.entry s ≡ named n id → p < length (G s) → i < length (segment_at (G s) p).payloads
      → D.rec (segment_at (G s) p).chunk i ≡ stored id (p * D.size + i) (get_or (segment_at (G s) p).payloads i [])
  pub spent : (c i f k : ℕ) (x : List ℕ) → c < D.chunks → i < D.size → D.rec c i ≡ stored f k x → f < D.next
  pub placed : (c i s k : ℕ) (x n : List ℕ) (id : ℕ) → c < D.chunks → i < D.size → s < 64 → D.rec c i ≡ stored id k x → D.entry s ≡ named n id
      → Placed (G s) c i
