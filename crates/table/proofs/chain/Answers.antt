use borrow.Author.Rules.{rules}
use mathlib.Core.Path.{refl, sym, ◌∙◌}
use native.Mathlib.Omega.{arith}
use borrow.Author.Tests.{eq-eqb, ne_eqb}
use Rattle.le.proofs.Choices.{pick_true, pick_false}
use Rattle.walk.proofs.Laws.{at_start, at_end}
use Rattle.table.specs.Table.{chain_step, chain_of}
use Rattle.table.proofs.Turns.{refused_turn, linked_turn, unlinked_turn}
use Rattle.table.proofs.Walks.{chain_below}
use Rattle.table.proofs.chain.Goals as goal
use Rattle.table.proofs.chain.Goals.{in-Linked+then-l-slot, in-Linked+else-l-slot, in_default}

pub loop-i-init : goal.loop-i-init
unfolding chain_of
loop-i-init c = (at_start _ _ _ _ _, search rules)

pub returns-in_err-l : goal.returns-in_err-l
returns-in_err-l c = search (rules, refused_turn c.loop-i.invariant.0 (omega arith) c.link_at.ensures c.in_err-l.was)

pub loop-i-preserved : goal.loop-i-preserved
unfolding chain_step
loop-i-preserved c =
    let l = c.loop-i in
    elim c.match-branch-2.branch [
      | in-Linked+then-l-slot w ↦
          let e = w.s-is ∙ w.chain_step-s.ensures in (
            linked_turn l.invariant.0 (omega arith) c.link_at.ensures c.in_ok-l.was w.in-Linked.is (e ∙ sym (pick_true _ _ (eq-eqb _ _ w.if-l-slot.true))),
            rw e (chain_below _ _ _ _ l.invariant.1),
          )
      | in-Linked+else-l-slot w ↦ (
        linked_turn l.invariant.0 (omega arith) c.link_at.ensures c.in_ok-l.was w.in-Linked.is (w.s-is ∙ sym (pick_false _ _ (ne_eqb _ _ w.if-l-slot.false))),
        rw w.s-is (omega arith),
      )
      | in_default w ↦ (
        unlinked_turn l.invariant.0 (omega arith) c.link_at.ensures c.in_ok-l.was (λ k u. refl) w.in_default.not-Linked w.s-is,
        rw w.s-is (omega arith),
      )
    ]

pub returns : goal.returns
returns c = c.chain_end.ensures ∙ at_end c.loop-i.invariant.0 (omega arith)
