use Rattle.bridge_points.specs.Points.{point_at}
use Rattle.bridge_points.proofs.Codes.{point_told}
use Rattle.bridge_points.proofs.port_read_point.Goals as goal

pub returns : goal.returns
unfolding point_at
returns c =
    let u = c.put_upto.ensures in
    let r = c.read_point-r.result in
    rw (← c.medium_in.ensures, ← c.store_in.ensures, ← c.read_point-r.ensures, c.code.ensures, u.0, u.1, c.medium_words.ensures)
    (point_told r.upto r.medium (c.or_none.ensures r.medium))
