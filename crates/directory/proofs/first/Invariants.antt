use Rattle.std.proofs.Common.{ℕ, List, Bool}
use Rattle.directory.specs.Scan.{scan_of, first, Decides}
use Rattle.directory.proofs.Scans.{ScanAt}
use Rattle.directory.proofs.first.Given as goal

abbrev pub invariant-loop-slot : goal.invariant-loop-slot
invariant-loop-slot g l =
    (test : ℕ → List ℕ → Bool) → Decides (goal.F-post g l.takes) test
    → ScanAt (first test l.none) l.volume l.medium l.store (scan_of (first test l.none) l.volume l.medium l.store tt) l.slot tt
