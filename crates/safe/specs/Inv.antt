-- 01, "Header" and "Commit": what holds of a volume and of the store value on it between the calls, and what a commit and a format leave of it, by
-- their ending. Assumes nothing.
use Rattle.std.specs.Prelude.{None}
use Rattle.std.specs.Prelude.{ℕ, ◌+◌, ◌-◌, ◌*◌, ◌^◌, ◌<◌, ◌≤◌, ◌≡◌, true, List, length}
use Rattle.le.specs.Part.{zeros}
use Rattle.medium.specs.declared.Medium.{Medium}
use Rattle.medium.specs.Sector.{sectors_of, sector_at}
use Rattle.medium.specs.Frame.{Kept, Spends}
use Rattle.freemap.specs.Map.{full_of}
use Rattle.handles.specs.declared.Header.{Header}
use Rattle.handles.specs.declared.Store.{Store}
use Rattle.handles.specs.Body.{body_at}
use Rattle.handles.specs.Handles.{body_of, base_of, store_ok, no_store}
use Rattle.header.specs.Copies.{copy_of, current_of}
use Rattle.header.specs.Header.{with_crcs, ours, InRange}
use Rattle.plan.specs.declared.Edit.{Edit}
use Rattle.plan.specs.Copy.{Plan, Out, map_after}
use Rattle.plan.specs.Edit.{edited_of, head_after}
use Rattle.commit.specs.Commit.{commit_plan}
use Rattle.safe.specs.Copy.{PlanDistinct}
use Rattle.safe.specs.Mounts.{Stands, Sound}

-- the store value is the one that mount gives: its copy stands with its header and the body that this lists
pub record Inv (vol : List ℕ) (st : Store) : Type 0 where
  pub ok : store_ok st (sectors_of vol) ≡ true
  pub range : InRange st.head
  pub sound : Sound vol st.copy st.head

-- every sector from 64 on, where the records are, is as it was
abbrev pub SameRecords : List ℕ → List ℕ → Type 0
SameRecords vol v = (j : ℕ) → 64 ≤ j → sector_at v j ≡ sector_at vol j

-- ---- commit

abbrev pub plan_of : Edit → List ℕ → List ℕ → Medium → Store → Plan
plan_of edit name vol m st = commit_plan (current_of vol m) edit name st

-- the premise on the body sectors that this commit leaves unwritten: no two that differ there have one checksum
abbrev pub CommitDistinct : Edit → List ℕ → List ℕ → Medium → Store → Type 0
CommitDistinct edit name vol m st = PlanDistinct (plan_of edit name vol m st) vol m

-- refused, however many writes were made: the old store
pub record CommitStopped (vol : List ℕ) (m : Medium) (st : Store) (o : Out) : Type 0 where
  pub store : o.ans.store ≡ st
  pub inv : Inv o.vol st
  pub body : (k : ℕ) → k < 24 → sector_at o.vol (body_at st k) ≡ sector_at vol (body_at st k)
  pub records : SameRecords vol o.vol
  pub frame : Kept (base_of (1 - st.copy)) 25 vol o.vol
  pub used : Spends m o.ans.medium

-- accepted: the new store, whose body is the old one's edited
pub record CommitMade (edit : Edit) (name vol : List ℕ) (m : Medium) (st : Store) (o : Out) : Type 0 where
  pub inv : Inv o.vol o.ans.store
  pub copy : o.ans.store.copy ≡ 1 - st.copy
  pub head : o.ans.store.head ≡ with_crcs (head_after edit st.head) o.ans.store.head.crcs
  pub writer : o.ans.store.writer ≡ st.writer
  pub free : o.ans.store.free ≡ map_after edit vol st st.head.chunks
  pub body : (k : ℕ) → k < body_of st.head.chunks → sector_at o.vol (body_at o.ans.store k) ≡ edited_of edit name k (sector_at vol (body_at st k))
  pub records : SameRecords vol o.vol
  pub frame : Kept (base_of (1 - st.copy)) 25 vol o.vol
  pub used : Spends m o.ans.medium

-- ---- format

-- the header of each valid copy has its widths: on a volume of bytes it has
abbrev pub Ranged : List ℕ → Type 0
Ranged vol = (c : ℕ) (h : Header) → copy_of vol (base_of c) ≡ ours h → InRange h

-- of that only the generation
abbrev pub Numbered : List ℕ → Type 0
Numbered vol = (c : ℕ) (h : Header) → copy_of vol (base_of c) ≡ ours h → h.generation < 2 ^ 64

-- refused, however many writes were made: a store that was there is there. That its copy stands is enough, whatever body its header lists
pub record FormatStopped (vol : List ℕ) (m : Medium) (o : Out) : Type 0 where
  pub store : o.ans.store ≡ no_store
  pub size : length o.vol ≡ length vol
  pub stands : (st : Store) → Stands vol st.copy st.head → Stands o.vol st.copy st.head
  pub inv : (st : Store) → Inv vol st → Inv o.vol st
  pub ranged : Ranged vol → Ranged o.vol
  pub body : (st : Store) → Stands vol st.copy st.head → (k : ℕ) → k < 24 → sector_at o.vol (body_at st k) ≡ sector_at vol (body_at st k)
  pub records : SameRecords vol o.vol
  pub used : Spends m o.ans.medium

-- accepted: an empty store with an id of its own
pub record FormatMade (chunk : ℕ) (vol : List ℕ) (m : Medium) (o : Out) : Type 0 where
  pub inv : Inv o.vol o.ans.store
  pub ranged : Ranged vol → Ranged o.vol
  pub writer : o.ans.store.writer ≡ None
  pub free : o.ans.store.free ≡ full_of o.ans.store.head.chunks
  pub next : o.ans.store.head.next_id ≡ 1
  pub cursor : o.ans.store.head.cursor ≡ 0
  pub id : o.ans.store.head.id ≡ 0 → ⊥
  pub fresh : (c : ℕ) (h : Header) → copy_of vol (base_of c) ≡ ours h → h.id ≡ o.ans.store.head.id → ⊥
  pub chunk_is : o.ans.store.head.chunk ≡ chunk
  pub chunk_range : (1 ≤ chunk) × (chunk ≤ 512)
  pub chunks_range : (1 ≤ o.ans.store.head.chunks) × (o.ans.store.head.chunks ≤ 2048)
  pub room : 64 + o.ans.store.head.chunks * chunk ≤ sectors_of vol
  pub body : (k : ℕ) → k < body_of o.ans.store.head.chunks → sector_at o.vol (body_at o.ans.store k) ≡ zeros 512
  pub records : SameRecords vol o.vol
  pub size : length o.vol ≡ length vol
  pub used : Spends m o.ans.medium
