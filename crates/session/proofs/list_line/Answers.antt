use Rattle.std.proofs.Common.{◌≡◌, Err, rules}
use Rattle.le.specs.Part.{zeros}
use Rattle.session.proofs.Ways.{no_list, held_store_is, with_list, list_refused, list_done}
use Rattle.session.proofs.list_line.Goals as goal

pub returns-in_err-store : goal.returns-in_err-store
returns-in_err-store c =
    let a = c.args in
    let e : c.from_residual.result ≡ Err c.in_err-store.field-0.0 = search rules in
    rw e (no_list a.volume.now a.s.now c.held_store.ensures c.in_err-store.was _)

pub returns-in_err-l : goal.returns-in_err-l
unfolding zeros
returns-in_err-l c =
    let a = c.args in
    let e : c.from_residual-in_err-l.result ≡ Err c.in_err-l.field-0.0 = search rules in
    let g = rw (held_store_is a.volume.now a.s.now c.held_store.ensures c.in_ok-store.was) at c.list-l.ensures in
    with_list a.volume.now a.s.now c.held_store.ensures c.in_ok-store.was a.rows.now
    (rw e (list_refused a.volume.now a.s.now a.rows.now c.list-l.result g c.in_err-l.was))

pub returns : goal.returns
unfolding zeros
returns c =
    let a = c.args in
    let g = rw (held_store_is a.volume.now a.s.now c.held_store.ensures c.in_ok-store.was) at c.list-l.ensures in
    with_list a.volume.now a.s.now c.held_store.ensures c.in_ok-store.was a.rows.now
    (list_done a.volume.now a.s.now a.rows.now c.list-l.result g c.in_ok-l.was)
