use Rattle.std.proofs.Common.{◌≡◌, Err, rules}
use Rattle.points.proofs.Scans.{end_refused, end_no, end_past, end_at_lem}
use Rattle.points.proofs.scan.end_of.Goals as goal

pub returns-in_err-r : goal.returns-in_err-r
returns-in_err-r c =
    let a = c.args in
    let e : c.from_residual.result ≡ Err c.in_err-r.field-0.0 = search rules in
    rw e (end_refused a.volume.now a.medium a.store a.name.now c.reader-r.result c.reader-r.ensures c.in_err-r.was)

pub returns-in_err-seen : goal.returns-in_err-seen
returns-in_err-seen c =
    let a = c.args in
    let e : c.from_residual-in_err-seen.result ≡ Err c.in_err-seen.field-0.0 = search rules in
    rw e (end_no a.volume.now a.medium a.store a.name.now c.reader-r.result c.reader-r.ensures c.in_ok-r.was _ c.walk.ensures c.in_err-seen.was)

pub returns-in_err-number : goal.returns-in_err-number
returns-in_err-number c =
    let a = c.args in
    let e : c.from_residual-in_err-number.result ≡ Err c.in_err-number.field-0.0 = search rules in
    rw e (end_past a.volume.now a.medium a.store a.name.now c.reader-r.result c.reader-r.ensures c.in_ok-r.was _ c.walk.ensures c.in_ok-seen.was _ c.record.ensures c.in_err-number.was)

pub returns : goal.returns
returns c =
    let a = c.args in
    end_at_lem a.volume.now a.medium a.store a.name.now c.reader-r.result c.reader-r.ensures c.in_ok-r.was _ c.walk.ensures c.in_ok-seen.was _ c.record.ensures c.in_ok-number.was
