use mathlib.Core.Path.{refl, ◌∙◌}
use native.Mathlib.Omega.{arith}
use Rattle.le.specs.Part.{zeros}
use Rattle.walk.proofs.Laws.{at_start, at_end}
use Rattle.table.specs.Free.{map_at}
use Rattle.table.proofs.Turns.{refused_turn, free_turn, unfree_turn}
use Rattle.table.proofs.free.map_at.Goals as goal
use Rattle.table.proofs.free.map_at.Goals.{in-Free, in_default-link}

pub loop-i-init : goal.loop-i-init
unfolding map_at zeros
loop-i-init c = at_start _ _ _ _ _

pub returns-in_default : goal.returns-in_default
returns-in_default c = c.unfit.ensures ∙ refused_turn c.loop-i.invariant (omega arith) c.link_at.ensures c.in_default.is

pub loop-i-preserved : goal.loop-i-preserved
loop-i-preserved c =
    let l = c.loop-i in
    elim c.match-link.branch [
      | in-Free w ↦
          free_turn l.invariant (omega arith) c.link_at.ensures c.in-Ok.is w.in-Free.is (w.words-is ∙ w.put.ensures)
      | in_default-link w ↦
          unfree_turn l.invariant (omega arith) c.link_at.ensures c.in-Ok.is (λ k l u. refl) w.in_default-link.not-Free w.words-is
    ]

pub returns : goal.returns
returns c = at_end c.loop-i.invariant (omega arith)
