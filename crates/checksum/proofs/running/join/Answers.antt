use mathlib.Core.Path.{◌∙◌}
use native.Mathlib.Omega.{arith}
use Rattle.checksum.proofs.Lanes.{join_turn, join_end}
use Rattle.checksum.proofs.running.join.Goals as goal

pub loop-lane-preserved : goal.loop-lane-preserved
loop-lane-preserved c =
    let l = c.loop-lane in
    join_turn _ l.lane-index l.c c.moved.result c.loop-lane-test.true c.moved.ensures ∙ l.invariant

pub returns : goal.returns
returns c =
    let l = c.loop-lane in
    join_end _ l.c l.lane-index _ c.loop-lane-test.false l.invariant
