use Rattle.format.proofs.refused.Goals as goal

pub returns : goal.returns
returns c = rw c.no_store-store.ensures
