use Rattle.std.proofs.Common.{◌≡◌, Err, rules}
use Rattle.session.proofs.Ways.{no_handles, sync_told}
use Rattle.session.proofs.sync_line.Goals as goal

pub returns-in_err-store : goal.returns-in_err-store
returns-in_err-store c =
    let a = c.args in
    let e : c.from_residual.result ≡ Err c.in_err-store.field-0.0 = search rules in
    rw e (no_handles a.volume.now a.s.now c.handles.ensures c.in_err-store.was _)

pub returns : goal.returns
returns c =
    let a = c.args in
    sync_told a.volume.now a.s.now c.handles.ensures c.in_ok-store.was c.sync.result c.flushed.result c.flushed.ensures c.sync.ensures
