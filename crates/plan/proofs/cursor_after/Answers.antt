use Rattle.plan.specs.Edit.{cursor_after}
use Rattle.plan.proofs.cursor_after.Goals as goal

pub returns-in-Format : goal.returns-in-Format
unfolding cursor_after
returns-in-Format c = rw c.in-Format.is

pub returns-in-Create : goal.returns-in-Create
unfolding cursor_after
returns-in-Create c = rw c.in-Create.is

pub returns-in-Extend : goal.returns-in-Extend
unfolding cursor_after
returns-in-Extend c = rw c.in-Extend.is

pub returns-in-Remove : goal.returns-in-Remove
unfolding cursor_after
returns-in-Remove c = rw c.in-Remove.is
