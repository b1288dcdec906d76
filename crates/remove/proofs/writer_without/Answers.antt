use borrow.Author.Tests.{eq-eqb, ne_eqb}
use Rattle.std.proofs.Common.{rules}
use Rattle.le.specs.Choice.{pick}
use Rattle.remove.specs.Remove.{writer_without}
use Rattle.remove.proofs.writer_without.Goals as goal

pub returns-in_err-open : goal.returns-in_err-open
unfolding writer_without
returns-in_err-open c = rw c.in_err-open.was (search rules)

pub returns-then-open-id : goal.returns-then-open-id
unfolding writer_without pick
returns-then-open-id c = rw (c.in_ok-open.was, eq-eqb _ _ c.if-open-id.true)

pub returns-else-open-id : goal.returns-else-open-id
unfolding writer_without pick
returns-else-open-id c = rw (c.in_ok-open.was, ne_eqb _ _ c.if-open-id.false)
