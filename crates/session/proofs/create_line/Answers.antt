use Rattle.std.proofs.Common.{◌≡◌, Err, rules}
use Rattle.session.proofs.Ways.{no_format, held_store_is, with_format, create_refused, create_done}
use Rattle.session.proofs.create_line.Goals as goal

pub returns-in_err-store : goal.returns-in_err-store
returns-in_err-store c =
    let a = c.args in
    let e : c.from_residual.result ≡ Err c.in_err-store.field-0.0 = search rules in
    rw e (no_format a.volume.now a.s.now c.held_store.ensures c.in_err-store.was _)

pub returns-in_err-r : goal.returns-in_err-r
returns-in_err-r c =
    let a = c.args in
    let e : c.from_residual-in_err-r.result ≡ Err c.in_err-r.field-0.0 = search rules in
    let g = rw (held_store_is a.volume.now a.s.now c.held_store.ensures c.in_ok-store.was) at c.create-r.ensures in
    with_format a.volume.now a.s.now c.held_store.ensures c.in_ok-store.was
    (rw e (create_refused a.volume.now a.s.now a.name.now a.rolls a.dir.now c.create-r.result g c.in_err-r.was))

pub returns : goal.returns
returns c =
    let a = c.args in
    let g = rw (held_store_is a.volume.now a.s.now c.held_store.ensures c.in_ok-store.was) at c.create-r.ensures in
    with_format a.volume.now a.s.now c.held_store.ensures c.in_ok-store.was
    (create_done a.volume.now a.s.now a.name.now a.rolls a.dir.now c.create-r.result g c.in_ok-r.was)
