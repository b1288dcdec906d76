use Rattle.store.proofs.Laws.{asked_done}
use Rattle.store.proofs.Starts.{input_refused, named_started}
use Rattle.store.proofs.reader.Goals as goal

pub returns-in-Err : goal.returns-in-Err
returns-in-Err c =
    let a = c.args in
    input_refused a.volume.now a.medium a.store a.name.now c.name_ok.ensures c.asked-o.ensures
    c.in-Err.is c.no_reader.ensures

pub find-f-requires : goal.find-f-requires
find-f-requires c =
    let args = c.args in
    (asked_done args.volume.now args.store _ c.asked-o.ensures c.in_default.is).held.enough

pub started-requires : goal.started-requires
started-requires c =
    let args = c.args in
    let h = (asked_done args.volume.now args.store _ c.asked-o.ensures c.in_default.is).held in
    (h.enough, h.head.chunks_most)

pub returns : goal.returns
returns c =
    let a = c.args in
    named_started a.volume.now a.medium a.store a.name.now c.name_ok.ensures c.asked-o.ensures
    c.in_default.is c.find-f.ensures c.started.ensures
