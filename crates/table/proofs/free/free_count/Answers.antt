use Rattle.std.proofs.Common.{rules}
use Rattle.medium.specs.Refusal.{on_done}
use Rattle.table.specs.Free.{free_count_of}
use Rattle.table.proofs.Ways.{by_walk, by_checked}
use Rattle.table.proofs.free.free_count.Goals as goal

pub returns-else-store : goal.returns-else-store
unfolding free_count_of
returns-else-store c = by_walk _ _ _ _ _ _ c.if-store.false c.walk_count.ensures

pub returns-then-store : goal.returns-then-store
unfolding free_count_of on_done
returns-then-store c = by_checked _ _ _ _ _ _ c.if-store.true c.checked.ensures (search rules)
