use Rattle.commit.proofs.Steps.{not_read, passed, damaged}
use Rattle.commit.proofs.read_body.Goals as goal

pub returns-in-Err : goal.returns-in-Err
returns-in-Err c =
    let a = c.args in
    let r = c.read_sector-o in
    not_read a.volume.now a.medium a.store a.k a.sector.now c.base.ensures.0 r.ensures.0 r.ensures.1
    c.in-Err.is

pub returns-then-crc32-h : goal.returns-then-crc32-h
returns-then-crc32-h c =
    let a = c.args in
    let r = c.read_sector-o in
    passed a.volume.now a.medium a.store a.k a.sector.now c.base.ensures.0 r.ensures.0 r.ensures.1
    c.in_default.is c.crc32.ensures c.if-crc32-h.true

pub returns : goal.returns
returns c =
    let a = c.args in
    let r = c.read_sector-o in
    damaged a.volume.now a.medium a.store a.k a.sector.now c.base.ensures.0 r.ensures.0 r.ensures.1
    c.in_default.is c.crc32.ensures c.if-crc32-h.false
