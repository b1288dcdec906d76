use Rattle.store.proofs.no_reader.Goals as goal

pub returns : goal.returns
returns c = cc
