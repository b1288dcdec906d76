-- 01, "Commit" and "Header" (format): what is asked of a plan, and what a copy written anew by it leaves, finished or stopped. Assumes nothing.
use Rattle.std.specs.Prelude.{ℕ, ◌+◌, ◌<◌, ◌≤◌, ◌≡◌, true, false, List, length, get_or}
use Rattle.checksum.specs.Crc.{crc32_of}
use Rattle.medium.specs.declared.Medium.{Medium}
use Rattle.medium.specs.Sector.{sectors_of, sector_at}
use Rattle.handles.specs.declared.Store.{Store}
use Rattle.handles.specs.Body.{body_at}
use Rattle.handles.specs.Handles.{body_of, base_of}
use Rattle.header.specs.Header.{encode_of, with_crcs}
use Rattle.plan.specs.Copy.{Plan, Move, unread, matched, put, bad, is_format, move_of, Distinct, skips, skipped_at, free_after}

-- the first sector of the copy that a plan writes, and body sector k of it
abbrev pub target : Plan → ℕ
target p = base_of p.copy

abbrev pub target_at : Plan → ℕ → ℕ
target_at p k = base_of p.copy + 1 + k

abbrev pub body_count : Plan → ℕ
body_count p = body_of p.head.chunks

-- a plan that fits the volume. But for a format, the store's own copy is the one that is not written
pub record Good (p : Plan) (vol : List ℕ) : Type 0 where
  pub enough : 64 ≤ sectors_of vol
  pub chunks : p.head.chunks ≤ 2048
  pub count : length p.head.crcs ≡ 24
  pub first : length p.first ≡ 512
  pub name : length p.name ≤ 40
  pub own : is_format p.edit ≡ false → p.store.copy + p.copy ≡ 1

-- ---- the checksums

-- what ties them to the volume. But for a format: the header to be written starts with the store's own, and the store's body has them. The body of
-- the copy to be written has those that its header lists, where that is known
pub record Tied (p : Plan) (vol : List ℕ) : Type 0 where
  pub start : is_format p.edit ≡ false → p.head.crcs ≡ p.store.head.crcs
  pub own : is_format p.edit ≡ false → (k : ℕ) → k < body_count p → crc32_of (sector_at vol (body_at p.store k)) ≡ get_or p.store.head.crcs k 0
  pub other : p.known ≡ true → (k : ℕ) → k < body_count p → crc32_of (sector_at vol (target_at p k)) ≡ get_or p.listed k 0

-- the premise on body sectors left unwritten: no two that differ there have one checksum
abbrev pub PlanDistinct : Plan → List ℕ → Medium → Type 0
PlanDistinct p vol m = (k : ℕ) → k < body_count p → skips p vol m k ≡ true → Distinct (skipped_at p vol k)

-- ---- what is left

-- a move was made: of the sector s and its checksum c it left s' and c'
unfoldable pub Made : Move → List ℕ → ℕ → List ℕ → ℕ → Type 0
Made unread s c s' c' = (s' ≡ s) × (c' ≡ c)
Made (matched x) s c s' c' = (s' ≡ s) × (c' ≡ x)
Made (put x bytes) s c s' c' = (s' ≡ bytes) × (c' ≡ x)
Made (bad e) s c s' c' = ⊥

-- the copy is finished: v is the volume, st the store value of the answer
pub record Finished (p : Plan) (vol : List ℕ) (m : Medium) (v : List ℕ) (st : Store) : Type 0 where
  pub store : st ≡ record { copy = p.copy; head = st.head; writer = p.store.writer; free = free_after p vol }
  pub head : st.head ≡ with_crcs p.head st.head.crcs
  pub count : length st.head.crcs ≡ 24
  pub header : sector_at v (target p) ≡ encode_of st.head
  pub past : (k : ℕ) → body_count p ≤ k → get_or st.head.crcs k 0 ≡ get_or p.head.crcs k 0
  pub made : (k : ℕ) → k < body_count p
      → Made (move_of p vol m k) (sector_at vol (target_at p k)) (get_or p.head.crcs k 0) (sector_at v (target_at p k)) (get_or st.head.crcs k 0)
