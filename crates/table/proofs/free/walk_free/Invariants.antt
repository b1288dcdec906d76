use Rattle.walk.proofs.Laws.{At}
use Rattle.table.specs.Link.{link_at}
use Rattle.table.specs.Table.{on_link, links_of, free_v, walk_free_of, Before}
use Rattle.table.proofs.free.walk_free.Given as goal

abbrev pub invariant-loop-i : goal.invariant-loop-i
invariant-loop-i l =
    (At (on_link (free_v l.store.head.cursor l.store.head.chunks)) (link_at l.volume l.medium l.store) (free_v l.store.head.cursor l.store.head.chunks).done
    (links_of l.store.head.chunks) (walk_free_of l.volume l.medium l.store) l.i l.best) × Before l.i l.best
