-- What each step of the calls changes of the views, D before it and E after it, index by index; and the layout after it. Assumes nothing.
use Rattle.std.specs.Prelude.{ℕ, ◌+◌, ◌≤◌, ◌<◌, ◌≡◌, ◌≢◌, true, false, List, [], ◌∷◌, ◌++◌, eqb, set, Ok}
use Rattle.le.specs.Choice.{pick}
use Rattle.table.specs.declared.Link.{Link}
use Rattle.table.specs.declared.LinkAt.TheVariants as link
use Rattle.table.specs.Table.{links_of}
use Rattle.layout.specs.Views.{vacant, named, blank, stored, Disk}
use Rattle.layout.specs.Segments.{Segment, segment_at, is_of}

-- the layout with the file of slot s replaced
unfoldable pub replaced : (ℕ → List Segment) → ℕ → List Segment → ℕ → List Segment
replaced G s g t = pick (eqb t s) g (G t)

-- a payload more in the segment at position p; a segment more, without payloads
abbrev pub with_payload : List Segment → ℕ → List ℕ → List Segment
with_payload g p x = set g p (record { chunk = (segment_at g p).chunk; payloads = (segment_at g p).payloads ++ (x ∷ []) })

abbrev pub with_segment : List Segment → ℕ → List Segment
with_segment g c = g ++ ((record { chunk = c; payloads = [] }) ∷ [])

-- the header's numbers, but for the next id
pub record SameShape (D E : Disk) : Type 0 where
  pub size : E.size ≡ D.size
  pub chunks : E.chunks ≡ D.chunks

abbrev pub SameEntries : Disk → Disk → Type 0
SameEntries D E = (t : ℕ) → t < 64 → E.entry t ≡ D.entry t

abbrev pub SameLinks : Disk → Disk → Type 0
SameLinks D E = (c : ℕ) → c < links_of D.chunks → E.link c ≡ D.link c

abbrev pub SameRecords : Disk → Disk → Type 0
SameRecords D E = (c i : ℕ) → c < D.chunks → i < D.size → E.rec c i ≡ D.rec c i

-- nothing
pub record Unchanged (D E : Disk) : Type 0 where
  pub shape : SameShape D E
  pub next : E.next ≡ D.next
  pub entries : SameEntries D E
  pub links : SameLinks D E
  pub records : SameRecords D E

-- record: x is written as record i of chunk c, of the file `id`, with its number
pub record Recorded (D E : Disk) (c i id number : ℕ) (x : List ℕ) : Type 0 where
  pub shape : SameShape D E
  pub next : E.next ≡ D.next
  pub entries : SameEntries D E
  pub links : SameLinks D E
  pub here : E.rec c i ≡ stored id number x
  pub elsewhere : (b j : ℕ) → b < D.chunks → j < D.size → (b ≡ c → j ≢ i) → E.rec b j ≡ D.rec b j

-- extending: chunk c gets the link `new`, and the chunk before it, `old`, the link `mark`
pub record Extended (D E : Disk) (c old : ℕ) (new mark : Link) : Type 0 where
  pub shape : SameShape D E
  pub next : E.next ≡ D.next
  pub entries : SameEntries D E
  pub records : SameRecords D E
  pub added : E.link c ≡ Ok (link.Linked new)
  pub marked : E.link old ≡ Ok (link.Linked mark)
  pub elsewhere : (b : ℕ) → b < links_of D.chunks → b ≢ c → b ≢ old → E.link b ≡ D.link b

-- create: slot s gets the name with the next id, chunk c its first link
pub record Created (D E : Disk) (s c : ℕ) (name : List ℕ) : Type 0 where
  pub shape : SameShape D E
  pub next : E.next ≡ D.next + 1
  pub records : SameRecords D E
  pub entry : E.entry s ≡ named name D.next
  pub entries : (t : ℕ) → t < 64 → t ≢ s → E.entry t ≡ D.entry t
  pub added : E.link c ≡ Ok (link.Linked (record { slot = s; position = 0; partial = false; records = 0 }))
  pub links : (b : ℕ) → b < links_of D.chunks → b ≢ c → E.link b ≡ D.link b

-- delete, delete_oldest, rollover: slot s is vacant, and every link of it is free
pub record Removed (D E : Disk) (s : ℕ) : Type 0 where
  pub shape : SameShape D E
  pub next : E.next ≡ D.next
  pub records : SameRecords D E
  pub entry : E.entry s ≡ vacant
  pub entries : (t : ℕ) → t < 64 → t ≢ s → E.entry t ≡ D.entry t
  pub cleared : (b : ℕ) → b < D.chunks → is_of s (D.link b) ≡ true → E.link b ≡ Ok link.Free
  pub links : (b : ℕ) → b < links_of D.chunks → is_of s (D.link b) ≡ false → E.link b ≡ D.link b

-- format: no entry, no link, and no sector passes as a record
pub record Fresh (E : Disk) : Type 0 where
  pub entries : (t : ℕ) → t < 64 → E.entry t ≡ vacant
  pub links : (b : ℕ) → b < E.chunks → E.link b ≡ Ok link.Free
  pub past : (b : ℕ) → E.chunks ≤ b → b < links_of E.chunks → E.link b ≡ Ok link.Past
  pub records : (b j : ℕ) → b < E.chunks → j < E.size → E.rec b j ≡ blank
