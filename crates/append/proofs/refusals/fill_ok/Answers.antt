use Rattle.append.specs.Appender.{fill_ok}
use Rattle.append.proofs.refusals.fill_ok.Goals as goal

pub returns : goal.returns
unfolding fill_ok
returns c = rw c.is_closed.ensures
