-- 01, "Commit" and "Header" (format): a copy written anew. A commit and a format differ in the first image of the header and in what is decided of
-- each body sector. Writes left falls inside, so this settles the volume after every stop. Assumes nothing.
use Rattle.std.specs.Prelude.{Err, Ok}
use Rattle.std.specs.Prelude.{ℕ, zero, suc, ◌+◌, ◌≡◌, Bool, true, false, not, ◌&&◌, ◌||◌, List, [], ◌∷◌, eqb, ltb, get_or, set}
use Rattle.le.specs.Choice.{pick}
use Rattle.le.specs.Part.{zeros}
use Rattle.checksum.specs.Crc.{crc32_of}
use Rattle.medium.specs.declared.Error.{Error}
use Rattle.medium.specs.declared.Medium.{Medium}
use Rattle.medium.specs.Refusal.{on_done}
use Rattle.medium.specs.Sector.{sector_at, WriteOut, write_of}
use Rattle.freemap.specs.declared.FreeMap.{FreeMap}
use Rattle.freemap.specs.Map.{marks, map_of}
use Rattle.handles.specs.declared.Header.{Header}
use Rattle.handles.specs.declared.Store.{Store}
use Rattle.handles.specs.Body.{body_at, check_of}
use Rattle.handles.specs.Handles.{body_of, base_of}
use Rattle.header.specs.Header.{encode_of, with_crcs}
use Rattle.table.specs.Link.{link_part, owned_by}
use Rattle.plan.specs.declared.Committed.{Committed}
use Rattle.plan.specs.declared.Edit.{Edit}
use Rattle.plan.specs.declared.Edit.TheVariants.{Format, Create, Extend, Remove}
use Rattle.plan.specs.declared.BodyWritten.{BodyWritten}
use Rattle.plan.specs.Edit.{changes_of, edited_of}

-- what is settled before the first write: the store value given (none for a format), the copy to write, its header with the checksums still to be
-- made, the header's first image, the edit with its name, and the checksums that the other header lists, where it is known to be of this store
pub record Plan : Type 0 where
  pub store : Store
  pub copy : ℕ
  pub head : Header
  pub first : List ℕ
  pub edit : Edit
  pub name : List ℕ
  pub known : Bool
  pub listed : List ℕ

-- the decision for a body sector: left unread; left after its checksum, which matched; written with its checksum; refused
pub data Move : Type 0 where
  unread : Move
  matched : ℕ → Move
  put : ℕ → List ℕ → Move
  bad : Error → Move

-- the bytes due in body sector k of the copy
unfoldable pub due_bytes : Plan → List ℕ → ℕ → List ℕ
due_bytes p vol k = edited_of p.edit p.name k (sector_at vol (body_at p.store k))

-- the other header lists this checksum for sector k
unfoldable pub lists : Plan → ℕ → ℕ → Bool
lists p k c = p.known && eqb (get_or p.listed k 0) c

-- a sector that was read and passed: the checksum decides, not the bytes
unfoldable pub due_move : Plan → ℕ → List ℕ → Move
due_move p k bytes = pick (lists p k (crc32_of bytes)) (matched (crc32_of bytes)) (put (crc32_of bytes) bytes)

unfoldable pub is_format : Edit → Bool
is_format Format = true
is_format (Create slot id chunk) = false
is_format (Extend slot position next last partial records) = false
is_format (Remove slot) = false

unfoldable pub move_of : Plan → List ℕ → Medium → ℕ → Move
move_of p vol m k =
    pick (is_format p.edit) (put (crc32_of (zeros 512)) (zeros 512))
    (pick (not (changes_of p.edit k) && lists p k (get_or p.store.head.crcs k 0)) unread
    (on_done (check_of vol m p.store k) (due_move p k (due_bytes p vol k)) bad))

-- what a part of the body leaves: the volume, and the answer with the header so far
pub record BodyOut : Type 0 where
  pub vol : List ℕ
  pub ans : BodyWritten

abbrev pub with_crc : Header → ℕ → ℕ → Header
with_crc h k c = with_crcs h (set h.crcs k c)

unfoldable pub act_of : Plan → Move → List ℕ → Medium → Header → ℕ → BodyOut
act_of p unread vol m h k = record { vol = vol; ans = record { outcome = Ok tt; medium = m; head = h } }
act_of p (matched c) vol m h k = record { vol = vol; ans = record { outcome = Ok tt; medium = m; head = with_crc h k c } }
act_of p (bad e) vol m h k = record { vol = vol; ans = record { outcome = Err e; medium = m; head = h } }
act_of p (put c bytes) vol m h k =
    let w : WriteOut = write_of vol m (base_of p.copy + 1 + k) bytes in
    record { vol = w.vol; ans = record { outcome = w.ans.outcome; medium = w.ans.medium; head = with_crc h k c } }

-- body sector k
unfoldable pub body_sector_of : Plan → List ℕ → Medium → Header → ℕ → BodyOut
body_sector_of p vol m h k = act_of p (move_of p vol m k) vol m h k

-- n body sectors from k on; a refusal keeps the writes made so far
unfoldable pub body_from : Plan → ℕ → ℕ → List ℕ → Medium → Header → BodyOut
body_from p zero k vol m h = record { vol = vol; ans = record { outcome = Ok tt; medium = m; head = h } }
body_from p (suc n) k vol m h =
    let s : BodyOut = body_sector_of p vol m h k in
    on_done s.ans.outcome (body_from p n (k + 1) s.vol s.ans.medium s.ans.head) (λ e. s)

-- the kinds of steps of 01's book: a commit's last write, or a record's
pub data Kind : Type 0 where
  formatted : Kind
  rolled_over : Kind
  deleted : Kind
  deleted_oldest : Kind
  created : Kind
  extended : Kind
  recorded : Kind

-- a body sector left unwritten: the bytes that it holds, and the bytes that are due there
pub record Skipped : Type 0 where
  pub held : List ℕ
  pub due : List ℕ

-- held and due are not two sectors of one checksum
abbrev pub Distinct : Skipped → Type 0
Distinct s = crc32_of s.held ≡ crc32_of s.due → s.held ≡ s.due

-- of each of them
unfoldable pub EachSkipped : (Skipped → Type 0) → List Skipped → Type 0
EachSkipped P [] = Unit
EachSkipped P (s ∷ ss) = P s × EachSkipped P ss

-- what writing a copy gives: the volume, the answer and, for the premise of demand 3, the body sectors that it left unwritten
pub record Out : Type 0 where
  pub vol : List ℕ
  pub ans : Committed
  pub skipped : List Skipped

-- a step of 01's book, with the body sectors that its commit left unwritten
pub record Step : Type 0 where
  pub kind : Kind
  pub skipped : List Skipped

-- for the book: accepted, it made one step of its kind, and refused none
unfoldable pub steps_of : Kind → Out → List Step
steps_of kind o = on_done o.ans.outcome ((record { kind = kind; skipped = o.skipped }) ∷ []) (λ e. [])

-- refused: the store value as given
abbrev pub refused_out : Store → List ℕ → Medium → Error → Out
refused_out st vol m e = record { vol = vol; ans = record { outcome = Err e; medium = m; store = st }; skipped = [] }

-- a move that leaves its sector unwritten
unfoldable pub leaves : Move → Bool
leaves unread = true
leaves (matched c) = true
leaves (put c bytes) = false
leaves (bad e) = false

-- body sector k is left unwritten. It is a question to the volume before the commit
unfoldable pub skips : Plan → List ℕ → Medium → ℕ → Bool
skips p vol m k = leaves (move_of p vol m k)

abbrev pub skipped_at : Plan → List ℕ → ℕ → Skipped
skipped_at p vol k = record { held = sector_at vol (base_of p.copy + 1 + k); due = due_bytes p vol k }

-- those of n body sectors from k on
unfoldable pub skipped_from : Plan → List ℕ → Medium → ℕ → ℕ → List Skipped
skipped_from p vol m zero k = []
skipped_from p vol m (suc n) k =
    pick (skips p vol m k) (skipped_at p vol k ∷ skipped_from p vol m n (k + 1)) (skipped_from p vol m n (k + 1))

-- 02, S-3: bit c of the map after an edit of a store with so many chunks. A chunk whose link the edit writes is not free, one whose link it zeroes is;
-- every other bit stays. A format frees every chunk
unfoldable pub mark_after : Edit → List ℕ → Store → ℕ → ℕ → Bool
mark_after Format vol st chunks c = ltb c chunks
mark_after (Create slot id chunk) vol st chunks c = marks st.free.words c && not (eqb c chunk)
mark_after (Extend slot position next last partial records) vol st chunks c = marks st.free.words c && not (eqb c next || (partial && eqb c last))
mark_after (Remove slot) vol st chunks c = marks st.free.words c || (ltb c chunks && owned_by slot (link_part vol st c))

-- the map after it: but for a format an unfit one stays as it is
unfoldable pub map_after : Edit → List ℕ → Store → ℕ → FreeMap
map_after e vol st chunks = pick (is_format e || st.free.fit) (map_of (mark_after e vol st chunks)) st.free

-- of a plan: a question to the volume before the commit, too
abbrev pub free_after : Plan → List ℕ → FreeMap
free_after p vol = map_after p.edit vol p.store p.head.chunks

-- the last write makes the copy current: the store is the new one
unfoldable pub last_of : Plan → FreeMap → List Skipped → List ℕ → Medium → Header → Out
last_of p free skipped vol m h =
    let w : WriteOut = write_of vol m (base_of p.copy) (encode_of h) in
    on_done w.ans.outcome
    (record {
      vol = w.vol;
      ans = record { outcome = Ok tt; medium = w.ans.medium; store = record { copy = p.copy; head = h; writer = p.store.writer; free = free } };
      skipped = skipped;
    })
    (refused_out p.store w.vol w.ans.medium)

-- the first write: from here to the last one the copy is none
abbrev pub first_of : Plan → List ℕ → Medium → WriteOut
first_of p vol m = write_of vol m (base_of p.copy) p.first

-- the first image of the header, the body, the whole header
unfoldable pub copy_out : Plan → List ℕ → Medium → Out
copy_out p vol m =
    let z : WriteOut = first_of p vol m in
    let b : BodyOut = body_from p (body_of p.head.chunks) 0 z.vol z.ans.medium p.head in
    on_done z.ans.outcome
    (on_done b.ans.outcome
    (last_of p (free_after p vol) (skipped_from p vol m (body_of p.head.chunks) 0) b.vol b.ans.medium b.ans.head)
    (refused_out p.store b.vol b.ans.medium))
    (refused_out p.store z.vol z.ans.medium)
