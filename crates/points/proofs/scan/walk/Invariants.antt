use Rattle.std.specs.Option.{option_copied}
use Rattle.points.proofs.Scans.{Walks}
use Rattle.points.specs.Told.{sought_of}
use Rattle.points.proofs.scan.walk.Given as goal

abbrev pub invariant-loop : goal.invariant-loop
invariant-loop l = Walks (sought_of (option_copied l.sought)) l.volume l.medium l.store l.initial.reader l.reader l.counter
