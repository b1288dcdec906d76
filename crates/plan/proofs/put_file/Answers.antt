use borrow.Author.Tests.{eq-eqb, ne_eqb}
use Rattle.le.specs.Choice.{pick}
use Rattle.plan.specs.Edit.{entry_put}
use Rattle.plan.proofs.Laws.{entry_back}
use Rattle.plan.proofs.put_file.Goals as goal

pub returns-then-k-slot : goal.returns-then-k-slot
unfolding entry_put pick
returns-then-k-slot c = rw (ne_eqb _ _ c.if-k-slot.true)

pub returns : goal.returns
unfolding entry_put pick
returns c =
    let a = c.args in
    rw (eq-eqb _ _ c.if-k-slot.false) (entry_back a.slot a.id a.name.now a.sector.now c.requires.1 c.put_entry.ensures)
