use borrow.Author.Tests.{eq-eqb, ne_eqb}
use Rattle.le.specs.Choice.{pick}
use Rattle.bridge.specs.Numbers.{writer_of}
use Rattle.bridge.proofs.numbers.writer_in.Goals as goal

pub returns-then-kind-eq0 : goal.returns-then-kind-eq0
unfolding writer_of pick
returns-then-kind-eq0 c = simp (eq-eqb _ _ c.if-kind-eq0.true)

pub returns-else-kind-eq0 : goal.returns-else-kind-eq0
unfolding writer_of pick
returns-else-kind-eq0 c = rw (ne_eqb _ _ c.if-kind-eq0.false, c.narrow.ensures, c.narrow-else-kind-eq0.ensures)
