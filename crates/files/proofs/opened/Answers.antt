use Rattle.std.proofs.Common.{[]}
use Rattle.le.specs.Part.{zeros}
use Rattle.files.proofs.Opens.{opened_new}
use Rattle.files.proofs.opened.Goals as goal

pub returns : goal.returns
unfolding zeros
returns c =
    let a = c.args in
    opened_new [] a.medium a.store a.slot a.id a.chunk a.position a.tail a.rollover c.with_token-m.ensures
    c.written_by-s.ensures
