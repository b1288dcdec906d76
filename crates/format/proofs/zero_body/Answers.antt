use mathlib.Core.Path.{refl, ◌∙◌}
use native.Mathlib.Omega.{arith}
use Rattle.format.proofs.Writes.{zero_start, zero_turn, zero_stop, zero_end}
use Rattle.format.proofs.zero_body.Goals as goal

pub loop-k-init : goal.loop-k-init
loop-k-init c =
    let a = c.args in
    (omega arith, refl, zero_start a.copy a.head c.requires.2 a.volume.now a.medium c.body-body.ensures)

pub returns-in-Err : goal.returns-in-Err
returns-in-Err c =
    let a = c.args in
    let l = c.loop-k in
    zero_stop a.copy a.head c.requires.2 l.volume l.m c.body-body.ensures
    c.loop-k-test.true c.base-first.ensures.0 c.zero_sector-w.ensures.0 c.zero_sector-w.ensures.1
    l.invariant.2 c.in-Err.is

pub loop-k-preserved : goal.loop-k-preserved
loop-k-preserved c =
    let a = c.args in
    let l = c.loop-k in (
      omega arith,
      c.zero_sector-w.auto.volume ∙ l.invariant.1,
      zero_turn a.copy a.head c.requires.2 l.volume l.m c.body-body.ensures
          c.loop-k-test.true c.base-first.ensures.0 c.zero_sector-w.ensures.0 c.zero_sector-w.ensures.1
          l.invariant.2 c.in_default.is,
    )

pub returns : goal.returns
returns c =
    let a = c.args in
    let l = c.loop-k in
    zero_end a.copy a.head c.requires.2 l.volume l.m (omega arith) l.invariant.2
