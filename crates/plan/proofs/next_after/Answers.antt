use Rattle.plan.specs.Edit.{next_after}
use Rattle.plan.proofs.next_after.Goals as goal

pub returns-in-Format : goal.returns-in-Format
unfolding next_after
returns-in-Format c = rw c.in-Format.is

pub returns-in-Create : goal.returns-in-Create
unfolding next_after
returns-in-Create c = rw c.in-Create.is

pub returns-in-Extend : goal.returns-in-Extend
unfolding next_after
returns-in-Extend c = rw c.in-Extend.is

pub returns-in-Remove : goal.returns-in-Remove
unfolding next_after
returns-in-Remove c = rw c.in-Remove.is
