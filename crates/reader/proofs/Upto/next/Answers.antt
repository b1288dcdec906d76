use Rattle.reader.proofs.Cuts.{read_upto}
use Rattle.reader.proofs.Upto.next.Goals as goal

pub returns : goal.returns
returns c =
    let a = c.args in
    read_upto a.volume.now a.medium a.store a.self a.out.now _ _ c.read-read.ensures
