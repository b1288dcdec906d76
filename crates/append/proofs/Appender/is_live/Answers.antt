use Rattle.append.specs.Appender.{live}
use Rattle.append.proofs.Appender.is_live.Goals as goal

pub returns : goal.returns
unfolding live
returns c = rw (c.writes.ensures, c.is_closed.ensures)
