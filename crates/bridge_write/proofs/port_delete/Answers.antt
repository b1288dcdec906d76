use Rattle.store.specs.Reading.{store_answer}
use Rattle.bridge_write.specs.Writing.{delete_at}
use Rattle.bridge_write.proofs.Volumes.{told_too}
use Rattle.bridge_write.proofs.port_delete.Goals as goal

pub returns : goal.returns
unfolding delete_at
returns c =
    let d = c.delete-r.ensures in
    rw (← c.medium_in.ensures, ← c.store_in.ensures, ← d.0, ← d.1) (told_too _ (store_answer c.delete-r.result) c.put_told.ensures)
