use Rattle.std.proofs.Common.{◌≡◌, ◌≤◌, length}
use Rattle.directory.specs.Rows.{listing, rows_of}
use Rattle.directory.proofs.Scans.{ScanAt}
use Rattle.directory.proofs.list_rows.Given as goal

abbrev pub invariant-loop-slot : goal.invariant-loop-slot
invariant-loop-slot l = record {
  come : ScanAt (listing l.dir l.counts) l.volume l.medium l.store (rows_of l.volume l.medium l.store l.dir l.counts l.initial.rows) l.slot (record { rows = l.rows; count = l.count });
  few : l.count ≤ l.slot;
  size : length l.rows ≡ length l.initial.rows;
}
