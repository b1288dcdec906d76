use Rattle.std.proofs.Common.{rules, Bool, ap, sym, ◌∙◌}
use Rattle.walk.specs.Walk.{next}
use Rattle.directory.specs.Scan.{file_seen, look_of}
use Rattle.directory.proofs.Scans.{scan_start, scan_end, at_refused, at_free, at_file}
use Rattle.directory.proofs.look.Goals as goal
use Rattle.directory.proofs.look.Goals.{in-None, in-Some}

pub loop-slot-init : goal.loop-slot-init
unfolding look_of
loop-slot-init c = scan_start _ _ _ _ _

pub returns-in_err-slot_at : goal.returns-in_err-slot_at
returns-in_err-slot_at c = at_refused c.loop-slot.invariant c.loop-slot-test.true c.slot_at.ensures.read c.in_err-slot_at.was (search rules)

pub loop-slot-preserved : goal.loop-slot-preserved
loop-slot-preserved c =
    let l = c.loop-slot in
    elim c.match-branch-2.branch [
      | in-None w ↦ at_free l.invariant c.loop-slot-test.true c.slot_at.ensures.read c.in_ok-slot_at.was w.in-None.is
          (ap next (sym (w.seen-is ∙ w.free_seen-seen.ensures)))
      | in-Some w ↦ at_file l.invariant c.loop-slot-test.true c.slot_at.ensures.read c.in_ok-slot_at.was w.in-Some.is
          (ap next (sym (w.seen-is ∙ w.file_seen-seen.ensures ∙ ap (λ (same : Bool). file_seen same l.seen) w.named.ensures)))
    ]

pub returns : goal.returns
returns c = scan_end c.loop-slot.invariant c.loop-slot-test.false
