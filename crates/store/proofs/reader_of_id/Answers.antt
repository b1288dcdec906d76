use Rattle.store.proofs.Laws.{asked_done}
use Rattle.store.proofs.Starts.{id_refused, id_started}
use Rattle.store.proofs.reader_of_id.Goals as goal

pub returns-in-Err : goal.returns-in-Err
returns-in-Err c =
    let a = c.args in
    id_refused a.volume.now a.medium a.store a.id c.asked-o.ensures c.in-Err.is c.no_reader.ensures

pub find_id-f-requires : goal.find_id-f-requires
find_id-f-requires c =
    let args = c.args in
    (asked_done args.volume.now args.store _ c.asked-o.ensures c.in_default.is).held.enough

pub started-requires : goal.started-requires
started-requires c =
    let args = c.args in
    let h = (asked_done args.volume.now args.store _ c.asked-o.ensures c.in_default.is).held in
    (h.enough, h.head.chunks_most)

pub returns : goal.returns
returns c =
    let a = c.args in
    id_started a.volume.now a.medium a.store a.id c.asked-o.ensures c.in_default.is
    c.find_id-f.ensures c.started.ensures
