use Rattle.remove.proofs.closed_for.Goals as goal

pub returns : goal.returns
returns c = rw c.writer_without-writer.ensures
