use Prim.Native.Nat.{◌≤◌}
use Rattle.walk.proofs.Laws.{At}
use Rattle.table.specs.Link.{link_at}
use Rattle.table.specs.Table.{on_link, links_of}
use Rattle.table.specs.Free.{free_count_v, walk_count_of}
use Rattle.table.proofs.free.walk_count.Given as goal

abbrev pub invariant-loop-i : goal.invariant-loop-i
invariant-loop-i l =
    (At (on_link free_count_v) (link_at l.volume l.medium l.store) free_count_v.done (links_of l.store.head.chunks) (walk_count_of l.volume l.medium l.store) l.i l.count) × (l.count ≤ l.i)
