use Rattle.points.proofs.Offers.{opens_fresh, opens_there}
use Rattle.points.proofs.marking.open.Goals as goal

pub returns-then-fresh : goal.returns-then-fresh
returns-then-fresh c =
    let a = c.args in
    opens_fresh a.volume.now a.medium a.store c.create.result c.if-fresh.true c.create.ensures.0
    c.create.ensures.1

pub returns-else-fresh : goal.returns-else-fresh
returns-else-fresh c =
    let a = c.args in
    opens_there a.volume.now a.medium a.store c.open_append.result c.if-fresh.false c.open_append.ensures
