use Rattle.walk.proofs.Laws.{At}
use Rattle.table.specs.Link.{link_at}
use Rattle.table.specs.Table.{on_link, links_of, locate_v, locate_of}
use Rattle.table.proofs.locate.Given as goal

abbrev pub invariant-loop-chunk : goal.invariant-loop-chunk
invariant-loop-chunk l =
    At (on_link (locate_v l.slot l.position)) (link_at l.volume l.medium l.store) (locate_v l.slot l.position).done (links_of l.store.head.chunks)
    (locate_of l.volume l.medium l.store l.slot l.position) l.chunk l.found
