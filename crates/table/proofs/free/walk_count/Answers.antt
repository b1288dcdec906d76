use borrow.Author.Rules.{rules}
use mathlib.Core.Path.{refl}
use native.Mathlib.Omega.{arith}
use Rattle.walk.proofs.Laws.{at_start, at_end}
use Rattle.table.specs.Free.{walk_count_of}
use Rattle.table.proofs.Turns.{refused_turn, free_turn, unfree_turn}
use Rattle.table.proofs.free.walk_count.Goals as goal
use Rattle.table.proofs.free.walk_count.Goals.{in-Free, in_default}

pub loop-i-init : goal.loop-i-init
unfolding walk_count_of
loop-i-init c = (at_start _ _ _ _ _, omega arith)

pub returns-in_err-link_at : goal.returns-in_err-link_at
returns-in_err-link_at c = search (rules, refused_turn c.loop-i.invariant.0 (omega arith) c.link_at.ensures c.in_err-link_at.was)

pub loop-i-preserved : goal.loop-i-preserved
loop-i-preserved c =
    let l = c.loop-i in
    elim c.match-branch-2.branch [
      | in-Free w ↦ (
        free_turn l.invariant.0 (omega arith) c.link_at.ensures c.in_ok-link_at.was w.in-Free.is w.count-is,
        omega (arith, w.count-is, l.invariant.1),
      )
      | in_default w ↦ (
        unfree_turn l.invariant.0 (omega arith) c.link_at.ensures c.in_ok-link_at.was (λ k l u. refl) w.in_default.not-Free w.count-is,
        omega (arith, w.count-is, l.invariant.1),
      )
    ]

pub returns : goal.returns
returns c = at_end c.loop-i.invariant.0 (omega arith)
