use Rattle.le.proofs.Turns.{told}
use Rattle.medium.specs.Refusal.{on_done}
use Rattle.store.specs.Reading.{find_call}
use Rattle.store.proofs.Laws.{asked_done}
use Rattle.store.proofs.find.Goals as goal

pub returns-in-Err : goal.returns-in-Err
unfolding find_call on_done
returns-in-Err c = rw (← c.name_ok.ensures, told c.asked-o.ensures c.in-Err.is)

pub find-found-requires : goal.find-found-requires
find-found-requires c =
    let args = c.args in
    (asked_done args.volume.now args.store _ c.asked-o.ensures c.in_default.is).held.enough

pub returns : goal.returns
unfolding find_call on_done
returns c =
    rw (← c.name_ok.ensures, told c.asked-o.ensures c.in_default.is, ← c.find-found.ensures)
