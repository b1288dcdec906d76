-- 02, S-3: "The chunk chosen and the free count equal the table walk's for every cursor, given the map of the last mount, format or commit, no other
-- writer, and demand 3's premise on body sectors left unwritten." The calls are a history's, accepted, refused or stopped: each gets the store value last
-- returned, and nothing else writes the volume. Of a medium record or a data sector nothing is asked. Assumes nothing.
use Rattle.std.specs.Prelude.{ℕ, ◌<◌, ◌≡◌, List, [], ◌∷◌, get_or}
use Rattle.medium.specs.declared.Medium.{Medium}
use Rattle.medium.specs.Refusal.{ok}
use Rattle.handles.specs.declared.Header.{Header}
use Rattle.handles.specs.declared.Store.{Store}
use Rattle.table.specs.Table.{walk_free_of}
use Rattle.table.specs.Free.{free_of, walk_count_of, free_count_of}
use Rattle.plan.specs.Copy.{Skipped}
use Rattle.append.specs.declared.Appender.{Appender}
use Rattle.store.specs.Reading.{mount_call}
use Rattle.store.specs.Writing.{format_call}
use Rattle.power.specs.Calls.{Call}
use Rattle.power.specs.History.{World, ran, after, EachStep, Honest}
use Rattle.power.specs.Claim.{started}

-- a header and a store value with another cursor
abbrev pub head_at : ℕ → Header → Header
head_at k h =
    record {
      id = h.id;
      generation = h.generation;
      next_id = h.next_id;
      cursor = k;
      chunks = h.chunks;
      chunk = h.chunk;
      crcs = h.crcs;
    }

abbrev pub at_cursor : ℕ → Store → Store
at_cursor k st = record { copy = st.copy; head = head_at k st.head; writer = st.writer; free = st.free }

-- whatever medium record comes next: the chunk chosen at every cursor, and the free count, are the walk's
pub record AsWalked (vol : List ℕ) (st : Store) : Type 0 where
  pub chunk : (m : Medium) (k : ℕ) → k < st.head.chunks → free_of vol m (at_cursor k st) ≡ walk_free_of vol m (at_cursor k st)
  pub count : (m : Medium) → free_count_of vol m st ≡ walk_count_of vol m st

-- the world after an accepted mount or format, on any volume of bytes, with any medium record and beside any appender
pub data Starts : World → Type 0 where
  mounted : (vol : List ℕ) (m : Medium) (ap : Appender) → ((k : ℕ) → get_or vol k 0 < 256) → (mount_call vol m).answer ≡ ok tt
      → Starts (record { vol = vol; store = (mount_call vol m).store; appender = ap; medium = m })
  formatted : (vol : List ℕ) (m : Medium) (size seed : ℕ) (ap : Appender) → ((k : ℕ) → get_or vol k 0 < 256)
      → (format_call vol m size seed).call.answer ≡ ok tt → Starts (started (format_call vol m size seed) ap)

-- demand 3's premise on the body sectors that the finished commits of these calls left unwritten, and nothing more
unfoldable pub EachCall : (Skipped → Type 0) → World → List Call → Type 0
EachCall P w [] = Unit
EachCall P w (c ∷ cs) = EachStep P (ran w c).steps × EachCall P (ran w c).world cs

-- the claim: so it is after every history from there
abbrev pub MapHolds : Type 0
MapHolds = (w : World) → Starts w → (cs : List Call) → EachCall Honest w cs → AsWalked (after w cs).vol (after w cs).store
