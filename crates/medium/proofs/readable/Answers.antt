use borrow.Author.Tests.{eq-eqb, ne_eqb}
use Rattle.le.specs.Choice.{pick}
use Rattle.medium.specs.Sector.{read_of}
use Rattle.medium.proofs.readable.Goals as goal

pub returns-then-at-medium : goal.returns-then-at-medium
unfolding read_of pick
returns-then-at-medium c = simp (eq-eqb _ _ c.if-at-medium.true)

pub returns-else-at-medium : goal.returns-else-at-medium
unfolding read_of pick
returns-else-at-medium c = simp (ne_eqb _ _ c.if-at-medium.false)
