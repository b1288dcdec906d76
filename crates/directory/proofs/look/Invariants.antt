use Rattle.directory.specs.Scan.{looking, look_of}
use Rattle.directory.proofs.Scans.{ScanAt}
use Rattle.directory.proofs.look.Given as goal

abbrev pub invariant-loop-slot : goal.invariant-loop-slot
invariant-loop-slot l = ScanAt (looking l.name) l.volume l.medium l.store (look_of l.volume l.medium l.store l.name) l.slot l.seen
