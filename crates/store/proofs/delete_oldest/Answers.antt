use Rattle.store.proofs.Laws.{asked_done}
use Rattle.store.proofs.Deletes.{dir_refused, oldest_told_lem}
use Rattle.store.proofs.delete_oldest.Goals as goal

pub returns-in-Err : goal.returns-in-Err
returns-in-Err c =
    let a = c.args in
    dir_refused a.volume.now a.medium a.store a.dir.now c.dir_ok.ensures c.asked-o.ensures
    c.in-Err.is c.none_gone.ensures

pub remove_oldest-requires : goal.remove_oldest-requires
remove_oldest-requires c =
    let args = c.args in
    (asked_done args.volume.now args.store _ c.asked-o.ensures c.in_default.is).ok

pub returns : goal.returns
returns c =
    let a = c.args in
    oldest_told_lem a.volume.now a.medium a.store a.dir.now c.dir_ok.ensures c.asked-o.ensures
    c.in_default.is c.open_file-spared.ensures
    c.remove_oldest.ensures
