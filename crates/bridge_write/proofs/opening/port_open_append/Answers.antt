use Rattle.bridge_write.specs.Writing.{open_at}
use Rattle.bridge_write.proofs.opening.port_open_append.Goals as goal

pub returns : goal.returns
unfolding open_at
returns c = rw (← c.medium_in.ensures, ← c.store_in.ensures, ← c.open_append-r.ensures) c.put_handed.ensures
