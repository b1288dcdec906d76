use Rattle.plan.specs.Edit.{changes_of}
use Rattle.plan.proofs.changes.Goals as goal

pub returns-in-Format : goal.returns-in-Format
unfolding changes_of
returns-in-Format c = rw c.in-Format.is

pub returns-in-Create : goal.returns-in-Create
unfolding changes_of
returns-in-Create c = rw c.in-Create.is

pub returns-in-Extend : goal.returns-in-Extend
unfolding changes_of
returns-in-Extend c = rw c.in-Extend.is

pub returns-in-Remove : goal.returns-in-Remove
unfolding changes_of
returns-in-Remove c = rw c.in-Remove.is
