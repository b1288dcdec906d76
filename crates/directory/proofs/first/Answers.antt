use Rattle.std.proofs.Common.{rules, refl, ◌∙◌, sym, ap}
use Rattle.le.proofs.Choices.{pick_true, pick_false}
use Rattle.directory.proofs.Scans.{scan_start, scan_end, at_refused, at_free, at_file, at_last}
use Rattle.directory.proofs.first.Goals as goal
use Rattle.directory.proofs.first.Goals.{in-Some+else-takes, in_default}

pub loop-slot-init : goal.loop-slot-init
loop-slot-init g c = λ test d. scan_start _ _ _ _ _

pub returns-in_err-file : goal.returns-in_err-file
returns-in_err-file g c = λ test d. at_refused (c.loop-slot.invariant test d) c.loop-slot-test.true c.slot_at.ensures.read c.in_err-file.was (search rules)

pub returns-then-takes : goal.returns-then-takes
returns-then-takes g c =
    λ test d. at_last (c.loop-slot.invariant test d) c.loop-slot-test.true c.slot_at.ensures.read c.in_ok-file.was c.in-Some.is
    (pick_true _ _ (ap (test _) (sym c.name_at.ensures.name) ∙ sym (d _ _ _ c.takes.ensures) ∙ c.if-takes.true))

pub loop-slot-preserved : goal.loop-slot-preserved
loop-slot-preserved g c =
    λ test d. elim c.match-branch-2.branch [
      | in-Some+else-takes w ↦ at_file (c.loop-slot.invariant test d) c.loop-slot-test.true c.slot_at.ensures.read c.in_ok-file.was w.in-Some.is
          (pick_false _ _ (ap (test _) (sym w.name_at.ensures.name) ∙ sym (d _ _ _ w.takes.ensures) ∙ w.if-takes.false))
      | in_default w ↦ at_free (c.loop-slot.invariant test d) c.loop-slot-test.true c.slot_at.ensures.read c.in_ok-file.was w.in_default.is refl
    ]

pub returns : goal.returns
returns g c = λ test d. scan_end (c.loop-slot.invariant test d) c.loop-slot-test.false
