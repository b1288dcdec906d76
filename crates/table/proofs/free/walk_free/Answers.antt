use borrow.Author.Rules.{rules}
use Rattle.std.specs.Prelude.{Ok}
use mathlib.Core.Path.{refl, ap, ◌∙◌}
use native.Mathlib.Omega.{arith}
use Rattle.walk.proofs.Laws.{at_start, at_end}
use Rattle.table.specs.Table.{walk_free_of}
use Rattle.table.proofs.Numbers.{found_free}
use Rattle.table.proofs.Nearest.{before_more, before_step}
use Rattle.table.proofs.Turns.{refused_turn, free_turn, unfree_turn}
use Rattle.table.proofs.free.walk_free.Goals as goal
use Rattle.table.proofs.free.walk_free.Goals.{in-Free, in_default}

pub loop-i-init : goal.loop-i-init
unfolding walk_free_of
loop-i-init c = (at_start _ _ _ _ _, tt)

pub returns-in_err-link_at : goal.returns-in_err-link_at
returns-in_err-link_at c = search (rules, refused_turn c.loop-i.invariant.0 (omega arith) c.link_at.ensures c.in_err-link_at.was)

pub free_step-best-requires : goal.free_step-best-requires
free_step-best-requires c = (search rules, found_free _ _ _ _ c.link_at.ensures (c.in_ok-link_at.was ∙ ap Ok c.in-Free.is), c.loop-i.invariant.1)

pub loop-i-preserved : goal.loop-i-preserved
loop-i-preserved c =
    let l = c.loop-i in
    elim c.match-branch-2.branch [
      | in-Free w ↦
          let e = w.best-is ∙ w.free_step-best.ensures in (
            free_turn l.invariant.0 (omega arith) c.link_at.ensures c.in_ok-link_at.was w.in-Free.is e,
            rw e (before_step _ _ _ _ l.invariant.1),
          )
      | in_default w ↦ (
        unfree_turn l.invariant.0 (omega arith) c.link_at.ensures c.in_ok-link_at.was (λ k l u. refl) w.in_default.not-Free w.best-is,
        rw w.best-is (before_more l.i l.best l.invariant.1),
      )
    ]

pub returns : goal.returns
returns c = at_end c.loop-i.invariant.0 (omega arith)
