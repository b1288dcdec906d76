use Rattle.append.specs.Calls.{app_answer}
use Rattle.bridge_write.specs.Writing.{append_at}
use Rattle.bridge_write.proofs.Volumes.{handed_too}
use Rattle.bridge_write.proofs.port_append.Goals as goal

pub returns : goal.returns
unfolding append_at
returns c =
    let d = c.append-r.ensures in
    rw (← c.medium_in.ensures, ← c.store_in.ensures, ← c.appender_in-ap.ensures, ← d.0, ← d.1) (handed_too _ (app_answer c.append-r.result) c.put_handed.ensures)
