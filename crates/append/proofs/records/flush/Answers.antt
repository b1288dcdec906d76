use Rattle.commit.proofs.Steps.{made_of}
use Rattle.append.proofs.Ways.{flush_refused, flush_done}
use Rattle.append.proofs.records.flush.Goals as goal

pub returns-in-Err : goal.returns-in-Err
returns-in-Err c =
    let a = c.args in
    made_of c.stopped.ensures
    (flush_refused a.volume.now a.medium a.store a.appender c.write-x.ensures c.in-Err.is c.closed-shut.ensures)

pub returns : goal.returns
returns c =
    let a = c.args in
    flush_done a.volume.now a.medium a.store a.appender c.write-x.ensures c.in_default.is
