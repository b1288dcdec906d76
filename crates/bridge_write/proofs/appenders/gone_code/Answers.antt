use Rattle.medium.specs.Refusal.{on_done}
use Rattle.bridge_write.proofs.appenders.gone_code.Goals as goal

pub returns-in-Ok : goal.returns-in-Ok
unfolding on_done
returns-in-Ok c = rw c.in-Ok.is

pub returns-in-Err : goal.returns-in-Err
unfolding on_done
returns-in-Err c = rw c.in-Err.is c.number.ensures
