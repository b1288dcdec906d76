use Rattle.std.proofs.Common.{rules}
use mathlib.Core.Path.{refl, sym, ◌∙◌}
use native.Mathlib.Omega.{arith}
use Rattle.le.proofs.Choices.{pick_true, pick_false}
use Rattle.walk.proofs.Laws.{at_start, at_end}
use Rattle.table.specs.Table.{locate_step, locate_of}
use Rattle.table.proofs.Turns.{refused_turn, linked_turn, unlinked_turn}
use Rattle.table.proofs.locate.Goals as goal
use Rattle.table.proofs.locate.Goals.{in-Linked+then-link-slot+then-link-position, in-Linked+else-link-slot, else-link-slot-via-then-link-slot+else-link-position, else-link-slot-via-else-link-slot, in_default}

pub loop-chunk-init : goal.loop-chunk-init
unfolding locate_of
loop-chunk-init c = at_start _ _ _ _ _

pub returns-in_err-link : goal.returns-in_err-link
returns-in_err-link c =
    search (rules, refused_turn c.loop-chunk.invariant (omega arith) c.link_at.ensures c.in_err-link.was)

pub loop-chunk-preserved : goal.loop-chunk-preserved
unfolding locate_step
loop-chunk-preserved c =
    let l = c.loop-chunk in
    elim c.match-branch-2.branch [
      | in-Linked+then-link-slot+then-link-position w ↦
          linked_turn l.invariant (omega arith) c.link_at.ensures c.in_ok-link.was w.in-Linked.is
          (w.found-is ∙ sym (pick_true _ _ (search (rules, arith))))
      | in-Linked+else-link-slot w ↦
          linked_turn l.invariant (omega arith) c.link_at.ensures c.in_ok-link.was w.in-Linked.is
          (w.found-is ∙ sym (pick_false _ _ (search (rules, arith))))
      | in_default w ↦
          unlinked_turn l.invariant (omega arith) c.link_at.ensures c.in_ok-link.was (λ k u. refl) w.in_default.not-Linked w.found-is
    ]

pub returns : goal.returns
returns c = search (rules, at_end c.loop-chunk.invariant (omega arith))
