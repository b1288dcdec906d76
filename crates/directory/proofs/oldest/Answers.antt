use Rattle.std.proofs.Common.{rules, ap, sym}
use Rattle.walk.specs.Walk.{next}
use Rattle.directory.proofs.Entries.{found_at_slot}
use Rattle.directory.specs.Scan.{oldest_of}
use Rattle.directory.proofs.Scans.{scan_start, scan_end, at_refused, at_free, at_file}
use Rattle.directory.proofs.oldest.Goals as goal
use Rattle.directory.proofs.oldest.Goals.{in_default, in-Some}

pub loop-slot-init : goal.loop-slot-init
unfolding oldest_of
loop-slot-init c = scan_start _ _ _ _ _

pub returns-in_err-file : goal.returns-in_err-file
returns-in_err-file c = at_refused c.loop-slot.invariant c.loop-slot-test.true c.slot_at.ensures.read c.in_err-file.was (search rules)

pub loop-slot-preserved : goal.loop-slot-preserved
loop-slot-preserved c =
    let l = c.loop-slot in
    elim c.match-branch-2.branch [
      | in-Some w ↦ at_file l.invariant c.loop-slot-test.true c.slot_at.ensures.read c.in_ok-file.was w.in-Some.is
          (rw (w.old-is, w.older-old.ensures, w.is_in.ensures, w.ne.ensures, (found_at_slot _ _ _ _ c.slot_at.ensures.read c.in_ok-file.was w.in-Some.is).whole))
      | in_default w ↦ at_free l.invariant c.loop-slot-test.true c.slot_at.ensures.read c.in_ok-file.was w.in_default.is (ap next (sym w.old-is))
    ]

pub returns : goal.returns
returns c = scan_end c.loop-slot.invariant c.loop-slot-test.false
