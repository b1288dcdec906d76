use Rattle.points.proofs.Offers.{from_refused, from_marked}
use Rattle.points.proofs.set_from.Goals as goal

pub returns-in-Err : goal.returns-in-Err
returns-in-Err c =
    let a = c.args in
    from_refused a.fresh a.volume.now a.medium a.store a.point.now a.name.now _ c.end_of.ensures c.not_set.result
    c.in-Err.is c.not_set.ensures

pub returns-in-Ok : goal.returns-in-Ok
returns-in-Ok c =
    let a = c.args in
    from_marked a.fresh a.volume.now a.medium a.store a.point.now a.name.now _ c.end_of.ensures c.mark.result
    c.in-Ok.is c.mark.ensures.0 c.mark.ensures.1
