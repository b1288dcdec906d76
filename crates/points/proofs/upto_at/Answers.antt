use Rattle.std.proofs.Common.{◌≡◌, Err, rules}
use Rattle.points.proofs.Offers.{point_refused, point_unread, point_absent, point_unset, point_lost, point_found}
use Rattle.points.proofs.upto_at.Goals as goal

pub returns-in_err-asked : goal.returns-in_err-asked
returns-in_err-asked c =
    let a = c.args in
    let e : c.from_residual.result ≡ Err c.in_err-asked.field-0.0 = search rules in
    rw e (point_refused a.volume.now a.medium a.store a.point.now c.asked.ensures c.in_err-asked.was)

pub returns-in_err-look : goal.returns-in_err-look
returns-in_err-look c =
    let a = c.args in
    let e : c.from_residual-in_err-look.result ≡ Err c.in_err-look.field-0.0 = search rules in
    rw e (point_unread a.volume.now a.medium a.store a.point.now c.asked.ensures c.in_ok-asked.was _ c.look.ensures c.in_err-look.was)

pub returns-in-Absent : goal.returns-in-Absent
returns-in-Absent c =
    let a = c.args in
    point_absent a.volume.now a.medium a.store a.point.now c.asked.ensures c.in_ok-asked.was _ c.look.ensures c.in_ok-look.was c.in-Absent.is

pub returns-in-Unset : goal.returns-in-Unset
returns-in-Unset c =
    let a = c.args in
    point_unset a.volume.now a.medium a.store a.point.now c.asked.ensures c.in_ok-asked.was _ c.look.ensures c.in_ok-look.was c.in-Unset.is

pub returns-in_err-r-in-Line : goal.returns-in_err-r-in-Line
returns-in_err-r-in-Line c =
    let a = c.args in
    let e : c.from_residual-in_err-r-in-Line.result ≡ Err c.in_err-r-in-Line.field-0.0 = search rules in
    rw e (point_lost a.volume.now a.medium a.store a.point.now c.asked.ensures c.in_ok-asked.was _ c.look.ensures c.in_ok-look.was c.in-Line.is c.reader_of_id-r.result c.reader_of_id-r.ensures c.in_err-r-in-Line.was)

pub returns-in_ok-r-in-Line : goal.returns-in_ok-r-in-Line
returns-in_ok-r-in-Line c =
    let a = c.args in
    point_found a.volume.now a.medium a.store a.point.now c.asked.ensures c.in_ok-asked.was _ c.look.ensures c.in_ok-look.was c.in-Line.is c.reader_of_id-r.result c.reader_of_id-r.ensures c.in_ok-r-in-Line.was
