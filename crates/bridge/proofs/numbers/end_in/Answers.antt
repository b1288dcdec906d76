use borrow.Author.Tests.{eq-eqb, ne_eqb}
use Rattle.le.specs.Choice.{pick}
use Rattle.bridge.specs.Numbers.{end_at}
use Rattle.bridge.proofs.numbers.end_in.Goals as goal

pub returns-then-kind-eq0 : goal.returns-then-kind-eq0
unfolding end_at pick
returns-then-kind-eq0 c = simp (eq-eqb _ _ c.if-kind-eq0.true)

pub returns-else-kind-eq0 : goal.returns-else-kind-eq0
unfolding end_at pick
returns-else-kind-eq0 c = rw (ne_eqb _ _ c.if-kind-eq0.false, c.narrow.ensures)
