use Rattle.store.proofs.Opens.{input_fits, open_refused, open_told}
use Rattle.store.proofs.opening.open_append.Goals as goal

pub returns-in-Err : goal.returns-in-Err
returns-in-Err c =
    let a = c.args in
    open_refused a.volume.now a.medium a.store a.name.now a.rolls a.dir.now c.admitted-o.ensures
    c.in-Err.is c.refused.ensures

pub rollover_of-over-requires : goal.rollover_of-over-requires
rollover_of-over-requires c =
    let a = c.args in
    (input_fits a.volume.now a.store a.name.now a.rolls a.dir.now c.admitted-o.ensures c.in_default.is).near

pub open_append-requires : goal.open_append-requires
open_append-requires c =
    let a = c.args in
    (input_fits a.volume.now a.store a.name.now a.rolls a.dir.now c.admitted-o.ensures c.in_default.is).ok

pub returns : goal.returns
returns c =
    let a = c.args in
    open_told a.volume.now a.medium a.store a.name.now a.rolls a.dir.now c.admitted-o.ensures
    c.in_default.is c.rollover_of-over.ensures c.open_append.ensures
