use Rattle.handles.proofs.Laws.{store_facts}
use Rattle.reopen.proofs.Ways.{not_found, name_found}
use Rattle.reopen.proofs.open_append.Goals as goal

pub find-requires : goal.find-requires
find-requires c = (store_facts _ _ c.requires).enough

pub open_file-requires : goal.open_file-requires
open_file-requires c = c.requires

pub returns-in-Err : goal.returns-in-Err
returns-in-Err c =
    let a = c.args in
    not_found a.name.now a.rollover a.volume.now a.medium a.store c.find.ensures c.in-Err.is
    c.refused.ensures

pub returns-in-Ok : goal.returns-in-Ok
returns-in-Ok c =
    let a = c.args in
    name_found a.name.now a.rollover a.volume.now a.medium a.store c.find.ensures c.in-Ok.is
    c.open_file.ensures
