use borrow.Author.Tests.{le-leb, lt-leb}
use Rattle.le.specs.Choice.{pick}
use Rattle.plan.specs.Edit.{slot_cleared}
use Rattle.plan.proofs.clear_slot.Goals as goal

pub returns-then-k-ge8 : goal.returns-then-k-ge8
unfolding slot_cleared pick
returns-then-k-ge8 c = rw (le-leb _ _ c.if-k-ge8.true) c.clear_links.ensures

pub returns : goal.returns
unfolding slot_cleared pick
returns c = rw (lt-leb _ _ c.if-k-ge8.false) c.clear_file.ensures
