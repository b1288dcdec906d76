use Rattle.medium.specs.Refusal.{on_done}
use Rattle.header.specs.Copies.{mount_of}
use Rattle.header.proofs.mount.Goals as goal

pub returns-in-Err : goal.returns-in-Err
unfolding mount_of on_done
returns-in-Err c = rw (← c.current-c.ensures, c.in-Err.is, c.no_store-store.ensures)

pub returns : goal.returns
unfolding mount_of on_done
returns c = rw (← c.current-c.ensures, c.in_default.is, c.unfit-free.ensures)
