use Rattle.points.proofs.Offers.{told_set}
use Rattle.points.proofs.marking.told_by.Goals as goal

pub returns : goal.returns
returns c =
    let h = c.args.c in
    rw c.and.ensures (told_set c.args.number h.outcome h.medium h.store h.appender)
