use Rattle.reader.proofs.Cuts.{read_needs, read_refused, read_done}
use Rattle.reader.proofs.Handed.{upto_passes}
use Rattle.reader.proofs.Reader.read.Goals as goal

pub returns-in-Err : goal.returns-in-Err
returns-in-Err c =
    let a = c.args in
    read_refused a.limit a.volume.now a.medium a.store a.self a.out.now c.may_read.ensures c.in-Err.is

pub advance-taken-requires : goal.advance-taken-requires
advance-taken-requires c =
    let a = c.args in
    read_needs a.limit a.volume.now a.medium a.store a.self a.out.now c.may_read.ensures c.in_default.is

pub counted-next-requires : goal.counted-next-requires
counted-next-requires c =
    let a = c.args in
    let n = read_needs a.limit a.volume.now a.medium a.store a.self a.out.now c.may_read.ensures c.in_default.is in
    (n.0, upto_passes a.limit a.volume.now a.medium a.store a.self a.out.now n.0 n.1 n.2 c.advance-taken.ensures.1)

pub returns : goal.returns
returns c =
    let a = c.args in
    read_done a.limit a.volume.now a.medium a.store a.self a.out.now c.may_read.ensures c.in_default.is
    c.advance-taken.ensures.0 c.advance-taken.ensures.1 c.counted-next.ensures
