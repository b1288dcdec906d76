use Rattle.append.specs.Appender.{is_closed}
use Rattle.append.proofs.refusals.is_closed.Goals as goal

pub returns-in-At : goal.returns-in-At
unfolding is_closed
returns-in-At c = rw c.in-At.is

pub returns-in-Reopened : goal.returns-in-Reopened
unfolding is_closed
returns-in-Reopened c = rw c.in-Reopened.is

pub returns-in-Closed : goal.returns-in-Closed
unfolding is_closed
returns-in-Closed c = rw c.in-Closed.is
