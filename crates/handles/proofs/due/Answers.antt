use Rattle.le.specs.Choice.{pick}
use Rattle.handles.specs.Body.{due_of}
use Rattle.handles.proofs.due.Goals as goal

pub returns-then-enters : goal.returns-then-enters
unfolding due_of pick
returns-then-enters c = rw c.if-enters.true c.check.ensures

pub returns-else-enters : goal.returns-else-enters
unfolding due_of pick
returns-else-enters c = rw c.if-enters.false
