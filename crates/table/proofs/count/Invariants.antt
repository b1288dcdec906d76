use Prim.Native.Nat.{ℕ, ◌≤◌, ◌<◌}
use mathlib.Core.Path.{◌≡◌}
use Rattle.walk.proofs.Laws.{At}
use lib.ListN.{length, get_or}
use Rattle.table.specs.Link.{link_at}
use Rattle.table.specs.Table.{on_link, links_of, count_v, count_of}
use Rattle.table.proofs.count.Given as goal

abbrev pub invariant-loop-chunk : goal.invariant-loop-chunk
invariant-loop-chunk l =
    (At (on_link count_v) (link_at l.volume l.medium l.store) count_v.done (links_of l.store.head.chunks) (count_of l.volume l.medium l.store l.initial.counts) l.chunk l.counts)
    × (length l.counts ≡ length l.initial.counts) × ((k : ℕ) → k < 64 → get_or l.counts k 0 ≤ l.chunk)
