-- Words for when a call is accepted: what it tells the book, which names a create or an opening takes, what a commit needs, what a file more needs, and
-- when a record takes another chunk.
-- Assumes nothing.
use Rattle.std.specs.Prelude.{ℕ, ◌+◌, ◌-◌, ◌^◌, ◌≤◌, ◌<◌, ◌≡◌, true, false, List, [], ◌∷◌, map, length}
use Rattle.names.specs.Names.{dotted}
use Rattle.plan.specs.Copy.{Kind, Step}
use Rattle.append.specs.declared.Tail.{Tail}
use Rattle.append.specs.declared.Tail.TheVariants.{At, Reopened, Closed}
use Rattle.writes.specs.Writes.{commit_most}
use Rattle.power.specs.Calls.{Rules, earlier, present, Call}
use Rattle.power.specs.Book.{File, Book}
use Rattle.power.specs.History.{World, ran}

-- a call is accepted, with steps of these kinds
abbrev pub Tells : World → Call → List Kind → Type 0
Tells w c kinds = ((ran w c).accepted ≡ true) × (map (λ (s : Step). s.kind) (ran w c).steps ≡ kinds)

-- S-5: since that request a create or an opening takes no dot name
abbrev pub Allows : Rules → List ℕ → Type 0
Allows earlier name = Unit {0}
Allows present name = dotted name ≡ false

-- enough for a commit: the generation is not spent, and as many writes are left as it may make
pub record CanCommit (w : World) (left : ℕ) : Type 0 where
  pub gens : w.store.head.generation ≡ 2 ^ 64 - 1 → ⊥
  pub writes : commit_most w.store.head.chunks ≤ left

-- the chunks of these files together
unfoldable pub chunks_in : List File → ℕ
chunks_in [] = 0
chunks_in (f ∷ fs) = f.chunks + chunks_in fs

-- room for a file more: a slot, a chunk and an id
pub record HasRoom (w : World) (b : Book) : Type 0 where
  pub slots : length b.files < 64
  pub chunks : chunks_in b.files < w.store.head.chunks
  pub ids : b.next ≡ 2 ^ 32 - 1 → ⊥

-- the next record takes another chunk first: the appender's is full, or was begun before it was opened
abbrev pub TakesChunk : Tail → ℕ → Type 0
TakesChunk (At i) size = size ≤ i
TakesChunk (Reopened n) size = Unit {0}
TakesChunk Closed size = ⊥
