use Rattle.std.proofs.Common.{rules}
use mathlib.Core.Path.{refl}
use native.Mathlib.Omega.{arith}
use Rattle.walk.proofs.Laws.{at_start, at_next, at_stop, at_end}
use Rattle.table.specs.Free.{checked_of}
use Rattle.table.proofs.free.checked.Goals as goal

pub loop-t-init : goal.loop-t-init
unfolding checked_of
loop-t-init c = at_start _ _ _ _ _

pub returns-in_err-check : goal.returns-in_err-check
returns-in_err-check c = search (rules, at_stop c.loop-t.invariant (omega arith) c.check.ensures c.in_err-check.was refl)

pub loop-t-preserved : goal.loop-t-preserved
loop-t-preserved c = at_next c.loop-t.invariant (omega arith) c.check.ensures c.in_ok-check.was refl

pub returns : goal.returns
returns c = at_end c.loop-t.invariant (omega arith)
