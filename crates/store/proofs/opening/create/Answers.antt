use Rattle.store.proofs.Opens.{input_fits, rollover_near, create_refused, create_told}
use Rattle.store.proofs.opening.create.Goals as goal

pub returns-in-Err : goal.returns-in-Err
returns-in-Err c =
    let a = c.args in
    create_refused a.volume.now a.medium a.store a.name.now a.rolls a.dir.now c.admitted-o.ensures
    c.in-Err.is c.refused.ensures

pub rollover_of-over-requires : goal.rollover_of-over-requires
rollover_of-over-requires c =
    let a = c.args in
    (input_fits a.volume.now a.store a.name.now a.rolls a.dir.now c.admitted-o.ensures c.in_default.is).near

pub create-requires : goal.create-requires
create-requires c =
    let a = c.args in
    let i = input_fits a.volume.now a.store a.name.now a.rolls a.dir.now c.admitted-o.ensures
    c.in_default.is in
    (i.ok, i.short, λ _. rollover_near a.rolls a.dir.now c.rollover_of-over.ensures i.near)

pub returns : goal.returns
returns c =
    let a = c.args in
    create_told a.volume.now a.medium a.store a.name.now a.rolls a.dir.now c.admitted-o.ensures
    c.in_default.is c.rollover_of-over.ensures c.create.ensures
