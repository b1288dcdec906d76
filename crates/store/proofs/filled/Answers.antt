use Rattle.store.proofs.filled.Goals as goal

pub returns : goal.returns
returns c = rw c.map_at-free.ensures
