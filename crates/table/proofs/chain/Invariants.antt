use Prim.Native.Nat.{◌≤◌}
use Rattle.walk.proofs.Laws.{At}
use Rattle.table.specs.Link.{link_at}
use Rattle.table.specs.Table.{on_link, links_of, chain_v, chain_end, chain_of}
use Rattle.table.proofs.chain.Given as goal

abbrev pub invariant-loop-i : goal.invariant-loop-i
invariant-loop-i l =
    (At (on_link (chain_v l.slot)) (link_at l.volume l.medium l.store) chain_end (links_of l.store.head.chunks) (chain_of l.volume l.medium l.store l.slot) l.i l.s)
    × (l.s.count ≤ l.i)
