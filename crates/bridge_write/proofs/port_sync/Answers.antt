use Rattle.append.specs.Calls.{app_answer}
use Rattle.bridge_write.specs.Writing.{sync_at}
use Rattle.bridge_write.proofs.Volumes.{handed_too}
use Rattle.bridge_write.proofs.port_sync.Goals as goal

pub returns : goal.returns
unfolding sync_at
returns c =
    let d = c.sync-r.ensures in
    rw (← c.medium_in.ensures, ← c.store_in.ensures, ← c.appender_in-ap.ensures, ← d.0, ← d.1) (handed_too _ (app_answer c.sync-r.result) c.put_handed.ensures)
