use Rattle.points.proofs.Offers.{asked_handle, asked_name_lem, asked_point_lem, asked_fine}
use Rattle.points.proofs.asked.Goals as goal

pub returns-then-not-handle_ok : goal.returns-then-not-handle_ok
returns-then-not-handle_ok c =
    let a = c.args in
    asked_handle a.volume.now a.store a.named a.point.now c.sectors.ensures c.handle_ok.ensures
    c.if-not-handle_ok.true

pub returns-then-not-named : goal.returns-then-not-named
returns-then-not-named c =
    let a = c.args in
    asked_name_lem a.volume.now a.store a.named a.point.now c.sectors.ensures c.handle_ok.ensures
    c.if-not-handle_ok.false c.if-not-named.true

pub returns-then-not-point_ok : goal.returns-then-not-point_ok
returns-then-not-point_ok c =
    let a = c.args in
    asked_point_lem a.volume.now a.store a.named a.point.now c.sectors.ensures c.handle_ok.ensures
    c.if-not-handle_ok.false c.if-not-named.false c.point_ok.ensures c.if-not-point_ok.true

pub returns : goal.returns
returns c =
    let a = c.args in
    asked_fine a.volume.now a.store a.named a.point.now c.sectors.ensures c.handle_ok.ensures
    c.if-not-handle_ok.false c.if-not-named.false c.point_ok.ensures c.if-not-point_ok.false
