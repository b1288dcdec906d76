use Rattle.std.proofs.Common.{◌≡◌, Err, arith, rules}
use Rattle.points.proofs.Scans.{walk_start, walk_next, walk_refused, walk_line, walk_end, walk_over}
use Rattle.points.proofs.scan.walk.Goals as goal

pub loop-init : goal.loop-init
loop-init c =
    walk_start _ _ _ _ _

pub returns-in_err-t : goal.returns-in_err-t
returns-in_err-t c =
    let e : c.from_residual.result ≡ Err c.in_err-t.field-0.0 = search rules in
    rw e (walk_refused c.loop.invariant (omega arith) _ c.turn.ensures c.in_err-t.was)

pub loop-preserved : goal.loop-preserved
loop-preserved c =
    walk_next c.loop.invariant (omega arith) _ c.turn.ensures c.in_ok-t.was c.in-Passed.is

pub returns-in-Line : goal.returns-in-Line
returns-in-Line c =
    walk_line c.loop.invariant (omega arith) _ c.turn.ensures c.in_ok-t.was c.in-Line.is

pub returns-in-End : goal.returns-in-End
returns-in-End c =
    walk_end c.loop.invariant (omega arith) _ c.turn.ensures c.in_ok-t.was c.in-End.is

pub returns : goal.returns
returns c =
    walk_over c.loop.invariant (omega arith)
