use Rattle.append.proofs.Facts.{may_handle, may_stale, may_done}
use Rattle.append.proofs.Appender.check.Goals as goal

pub returns-then-not-held-fine : goal.returns-then-not-held-fine
returns-then-not-held-fine c =
    let a = c.args in
    may_handle a.volume.now a.store a.self (rw c.sectors.ensures at c.handle_ok-held.ensures)
    c.handle_ok-fine.ensures c.if-not-held-fine.true

pub returns-then-is_live : goal.returns-then-is_live
returns-then-is_live c =
    let a = c.args in
    may_done a.volume.now a.store a.self (rw c.sectors.ensures at c.handle_ok-held.ensures)
    c.handle_ok-fine.ensures c.if-not-held-fine.false c.is_live.ensures c.if-is_live.true

pub returns : goal.returns
returns c =
    let a = c.args in
    may_stale a.volume.now a.store a.self (rw c.sectors.ensures at c.handle_ok-held.ensures)
    c.handle_ok-fine.ensures c.if-not-held-fine.false c.is_live.ensures c.if-is_live.false
