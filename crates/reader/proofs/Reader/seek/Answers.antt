use Rattle.reader.proofs.Offers.{seek_done}
use Rattle.reader.proofs.Reader.seek.Goals as goal

pub returns-in-Ok : goal.returns-in-Ok
returns-in-Ok c =
    let a = c.args in
    seek_done a.volume.now a.medium a.store a.self a.«record» c.sought.ensures c.in-Ok.is
