use Rattle.walk.proofs.Laws.{At}
use Rattle.table.specs.Link.{link_at}
use Rattle.table.specs.Table.{on_link, links_of}
use Rattle.table.specs.Free.{map_v, map_at}
use Rattle.table.proofs.free.map_at.Given as goal

abbrev pub invariant-loop-i : goal.invariant-loop-i
invariant-loop-i l =
    At (on_link map_v) (link_at l.volume l.medium l.store) map_v.done (links_of l.store.head.chunks) (map_at l.volume l.medium l.store) l.i l.words
