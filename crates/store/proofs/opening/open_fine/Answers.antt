use Rattle.store.proofs.opening.open_fine.Goals as goal

pub returns : goal.returns
returns c = rw (← c.name_ok-named.ensures, ← c.dir_ok-fine.ensures)
