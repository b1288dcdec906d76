use Rattle.le.proofs.Turns.{told}
use Rattle.medium.specs.Refusal.{on_done}
use Rattle.store.specs.Reading.{free_count_call}
use Rattle.store.proofs.Laws.{asked_done}
use Rattle.store.proofs.free_count.Goals as goal

pub returns-in-Err : goal.returns-in-Err
unfolding free_count_call on_done
returns-in-Err c = rw (told c.asked-o.ensures c.in-Err.is)

pub free_count-count-requires : goal.free_count-count-requires
free_count-count-requires c =
    let args = c.args in
    let h = (asked_done args.volume.now args.store _ c.asked-o.ensures c.in_default.is).held in
    (h.enough, h.head.chunks_most)

pub returns : goal.returns
unfolding free_count_call on_done
returns c = rw (told c.asked-o.ensures c.in_default.is, ← c.free_count-count.ensures)
