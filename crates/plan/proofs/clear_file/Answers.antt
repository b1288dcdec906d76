use borrow.Author.Tests.{eq-eqb, ne_eqb}
use Rattle.le.specs.Choice.{pick}
use Rattle.plan.specs.Edit.{entry_put}
use Rattle.plan.proofs.clear_file.Goals as goal

pub returns-then-k-slot : goal.returns-then-k-slot
unfolding entry_put pick
returns-then-k-slot c = rw (ne_eqb _ _ c.if-k-slot.true)

pub returns : goal.returns
unfolding entry_put pick
returns c = rw (eq-eqb _ _ c.if-k-slot.false) c.put_zeros.ensures
