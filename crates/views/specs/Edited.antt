-- 01, "Commit": what a finished commit leaves of the volume and of the store value, sector by sector; and what a step that changes no copy in use
-- leaves. The views of crate layout follow from these facts. Assumes nothing.
use Rattle.std.specs.Prelude.{ℕ, ◌≤◌, ◌<◌, ◌≡◌, List, length}
use Rattle.le.specs.Choice.{pick}
use Rattle.medium.specs.Sector.{sector_at}
use Rattle.handles.specs.declared.Store.{Store}
use Rattle.handles.specs.Body.{body_at}
use Rattle.handles.specs.Handles.{body_of}
use Rattle.header.specs.Header.{with_crcs}
use Rattle.plan.specs.declared.Edit.{Edit}
use Rattle.plan.specs.Edit.{changes_of, edit_of, head_after}
use Rattle.plan.specs.Copy.{map_after}

-- v and t are vol and st after a finished commit of the edit: each body sector edited where it changes, each data sector as it was, the header
-- the edit's but for its checksums, and the map the edit's
pub record Edited (edit : Edit) (name : List ℕ) (vol : List ℕ) (st : Store) (v : List ℕ) (t : Store) : Type 0 where
  pub size : length v ≡ length vol
  pub head : t.head ≡ with_crcs (head_after edit st.head) t.head.crcs
  pub free : t.free ≡ map_after edit vol st st.head.chunks
  pub body : (k : ℕ) → k < body_of st.head.chunks
      → sector_at v (body_at t k) ≡ pick (changes_of edit k) (edit_of edit name k (sector_at vol (body_at st k))) (sector_at vol (body_at st k))
  pub rest : (j : ℕ) → 64 ≤ j → sector_at v j ≡ sector_at vol j

-- v and t say what vol and st say: the same numbers, body and data sectors, whatever the copies and the writers
pub record SameSectors (vol : List ℕ) (st : Store) (v : List ℕ) (t : Store) : Type 0 where
  pub id : t.head.id ≡ st.head.id
  pub next : t.head.next_id ≡ st.head.next_id
  pub chunks : t.head.chunks ≡ st.head.chunks
  pub chunk : t.head.chunk ≡ st.head.chunk
  pub body : (k : ℕ) → k < body_of st.head.chunks → sector_at v (body_at t k) ≡ sector_at vol (body_at st k)
  pub rest : (j : ℕ) → 64 ≤ j → sector_at v j ≡ sector_at vol j
