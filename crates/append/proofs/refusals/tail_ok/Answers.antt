use Rattle.append.specs.Appender.{tail_ok}
use Rattle.append.proofs.refusals.tail_ok.Goals as goal

pub returns-in-At : goal.returns-in-At
unfolding tail_ok
returns-in-At c = rw c.in-At.is

pub returns-in-Reopened : goal.returns-in-Reopened
unfolding tail_ok
returns-in-Reopened c = rw c.in-Reopened.is

pub returns-in-Closed : goal.returns-in-Closed
unfolding tail_ok
returns-in-Closed c = rw c.in-Closed.is
