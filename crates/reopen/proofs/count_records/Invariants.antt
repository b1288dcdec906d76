use Rattle.reopen.proofs.Counts.{Counting}
use Rattle.reopen.proofs.count_records.Given as goal

abbrev pub invariant-loop-index : goal.invariant-loop-index
invariant-loop-index l = Counting l.volume l.medium l.store l.id l.chunk l.position l.index
