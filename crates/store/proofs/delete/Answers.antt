use Rattle.directory.proofs.Ranges.{find_name}
use Rattle.le.proofs.Turns.{told}
use Rattle.store.proofs.Laws.{asked_done}
use Rattle.store.proofs.Deletes.{input_refused, not_found, removed}
use Rattle.store.proofs.delete.Goals as goal

pub returns-in-Err : goal.returns-in-Err
returns-in-Err c =
    let a = c.args in
    input_refused a.volume.now a.medium a.store a.name.now c.name_ok.ensures c.asked-o.ensures
    c.in-Err.is c.as_given.ensures

pub find-requires : goal.find-requires
find-requires c =
    let args = c.args in
    (asked_done args.volume.now args.store _ c.asked-o.ensures c.in_default.is).held.enough

pub remove-requires : goal.remove-requires
remove-requires c =
    let a = c.args in (
      (asked_done a.volume.now a.store _ c.asked-o.ensures c.in_default.is).ok,
      (find_name a.volume.now a.medium a.store a.name.now (told c.find.ensures c.in-Ok.is)).below,
    )

pub returns-in-Err-find : goal.returns-in-Err-find
returns-in-Err-find c =
    let a = c.args in
    not_found a.volume.now a.medium a.store a.name.now c.name_ok.ensures c.asked-o.ensures
    c.in_default.is c.find.ensures c.in-Err-find.is c.as_given-in-Err-find.ensures

pub returns-in-Ok : goal.returns-in-Ok
returns-in-Ok c =
    let a = c.args in
    removed a.volume.now a.medium a.store a.name.now c.name_ok.ensures c.asked-o.ensures
    c.in_default.is c.find.ensures c.in-Ok.is c.remove.ensures c.committed.ensures
