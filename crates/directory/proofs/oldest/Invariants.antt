use Rattle.directory.specs.Scan.{seeking, oldest_of}
use Rattle.directory.proofs.Scans.{ScanAt}
use Rattle.directory.proofs.oldest.Given as goal

abbrev pub invariant-loop-slot : goal.invariant-loop-slot
invariant-loop-slot l =
    ScanAt (seeking l.dir l.spared) l.volume l.medium l.store (oldest_of l.volume l.medium l.store l.dir l.spared) l.slot l.old
