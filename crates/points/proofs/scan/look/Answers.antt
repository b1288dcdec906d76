use Rattle.std.proofs.Common.{◌≡◌, Err, rules}
use Rattle.points.proofs.Scans.{look_absent, look_refused, look_no, look_unset, look_line}
use Rattle.points.proofs.scan.look.Goals as goal

pub returns-in-NotFound : goal.returns-in-NotFound
returns-in-NotFound c =
    let a = c.args in
    look_absent a.volume.now a.medium a.store a.point.now c.reader-r.result c.reader-r.ensures (search rules)

pub returns-in_default-e : goal.returns-in_default-e
returns-in_default-e c =
    let a = c.args in
    look_refused a.volume.now a.medium a.store a.point.now c.reader-r.result c.reader-r.ensures c.in-Err.is c.in_default-e.not-NotFound

pub returns-in_err-seen : goal.returns-in_err-seen
returns-in_err-seen c =
    let a = c.args in
    let e : c.from_residual.result ≡ Err c.in_err-seen.field-0.0 = search rules in
    rw e (look_no a.volume.now a.medium a.store a.point.now c.reader-r.result c.reader-r.ensures c.in_default.is _ c.walk.ensures c.in_err-seen.was)

pub returns-in-None : goal.returns-in-None
returns-in-None c =
    let a = c.args in
    look_unset a.volume.now a.medium a.store a.point.now c.reader-r.result c.reader-r.ensures c.in_default.is _ c.walk.ensures c.in_ok-seen.was c.in-None.is

pub returns-in-Some : goal.returns-in-Some
returns-in-Some c =
    let a = c.args in
    look_line a.volume.now a.medium a.store a.point.now c.reader-r.result c.reader-r.ensures c.in_default.is _ c.walk.ensures c.in_ok-seen.was c.in-Some.is
