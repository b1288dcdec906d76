use Rattle.append.specs.Calls.{app_answer}
use Rattle.bridge_write.specs.Writing.{create_at}
use Rattle.bridge_write.proofs.Volumes.{handed_too}
use Rattle.bridge_write.proofs.opening.port_create.Goals as goal

pub returns : goal.returns
unfolding create_at
returns c =
    let d = c.create-r.ensures in
    rw (← c.medium_in.ensures, ← c.store_in.ensures, ← d.0, ← d.1) (handed_too _ (app_answer c.create-r.result) c.put_handed.ensures)
