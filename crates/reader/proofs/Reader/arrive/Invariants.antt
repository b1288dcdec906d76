use Rattle.reader.proofs.Moves.{Arriving}
use Rattle.reader.proofs.Reader.arrive.Given as goal

abbrev pub invariant-loop-position : goal.invariant-loop-position
invariant-loop-position l = Arriving l.volume l.medium l.store l.initial.reader l.position l.reader
