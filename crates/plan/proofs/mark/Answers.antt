use Rattle.le.specs.Choice.{pick}
use Rattle.plan.proofs.mark.Goals as goal

pub returns-then-partial : goal.returns-then-partial
unfolding pick
returns-then-partial c = rw c.if-partial.true c.put_link.ensures

pub returns-else-partial : goal.returns-else-partial
unfolding pick
returns-else-partial c = rw c.if-partial.false
