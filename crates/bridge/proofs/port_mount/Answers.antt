use Rattle.bridge.specs.Calls.{mount_at}
use Rattle.bridge.proofs.port_mount.Goals as goal

pub returns : goal.returns
unfolding mount_at
returns c = rw (← c.medium_in.ensures, ← c.mount-r.ensures) c.put_told.ensures
