use Rattle.store.specs.Reading.{store_answer}
use Rattle.bridge_write.specs.Writing.{format_at}
use Rattle.bridge_write.proofs.Volumes.{told_too}
use Rattle.bridge_write.proofs.port_format.Goals as goal

pub returns : goal.returns
unfolding format_at
returns c =
    let d = c.format-r.ensures in
    rw (← c.medium_in.ensures, ← d.0, ← d.1) (told_too _ (store_answer c.format-r.result) c.put_told.ensures)
