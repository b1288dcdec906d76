use Rattle.std.proofs.Common.{◌≡◌, length, rules}
use Rattle.le.specs.Part.{zeros}
use Rattle.points.proofs.Offers.{line_sent, mark_unopened, mark_unput, mark_synced}
use Rattle.marks.specs.Line.{line_of}
use Rattle.points.proofs.marking.mark.Goals as goal

pub returns-in-Err : goal.returns-in-Err
returns-in-Err c =
    let a = c.args in
    let count : length a.store.head.crcs ≡ 24 = search rules in
    mark_unopened a.fresh (line_of a.point.now a.end.id a.end.number) a.end.number a.volume.now a.medium a.store c.open-o.result
    c.open-o.ensures.0 c.open-o.ensures.1 count c.not_set.result c.in-Err.is c.not_set.ensures

pub returns-in-Err-outcome : goal.returns-in-Err-outcome
unfolding zeros
returns-in-Err-outcome c =
    let a = c.args in
    mark_unput a.fresh (line_of a.point.now a.end.id a.end.number) a.end.number a.volume.now a.medium a.store c.open-o.result
    c.open-o.ensures.0 c.open-o.ensures.1 c.in_default.is
    (line_sent _ c.line-length.ensures.0 c.line-length.ensures.1) c.append-a.result
    c.append-a.ensures.0 c.append-a.ensures.1 c.told_by.result c.in-Err-outcome.is c.told_by.ensures

pub returns : goal.returns
unfolding zeros
returns c =
    let a = c.args in
    mark_synced a.fresh (line_of a.point.now a.end.id a.end.number) a.end.number a.volume.now a.medium a.store c.open-o.result
    c.open-o.ensures.0 c.open-o.ensures.1 c.in_default.is
    (line_sent _ c.line-length.ensures.0 c.line-length.ensures.1) c.append-a.result
    c.append-a.ensures.0 c.append-a.ensures.1 c.sync-s.result c.told_by-2.result
    c.in_default-outcome.is c.sync-s.ensures.0 c.sync-s.ensures.1 c.told_by-2.ensures
