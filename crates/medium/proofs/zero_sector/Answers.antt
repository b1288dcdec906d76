use Rattle.le.specs.Part.{zeros}
use Rattle.medium.specs.Sector.{write_at}
use Rattle.medium.proofs.Laws.{write_refused, write_done}
use Rattle.medium.proofs.zero_sector.Goals as goal

pub returns-in-Err : goal.returns-in-Err
returns-in-Err c =
    let a = c.args in
    write_refused a.volume.now a.medium a.at (zeros 512) c.spend-w.ensures c.in-Err.is

pub returns : goal.returns
unfolding write_at
returns c =
    let a = c.args in
    write_done a.volume.now a.medium a.at (zeros 512) c.spend-w.ensures c.in_default.is
    c.put_zeros.ensures
