use borrow.Author.Tests.{eq-eqb, ne_eqb}
use Rattle.le.specs.Choice.{pick}
use Rattle.plan.specs.Edit.{link_put}
use Rattle.plan.proofs.put_link.Goals as goal

pub returns-then-k-chunk : goal.returns-then-k-chunk
unfolding link_put pick
returns-then-k-chunk c = rw (ne_eqb _ _ c.if-k-chunk.true)

pub returns : goal.returns
unfolding link_put pick
returns c = rw (eq-eqb _ _ c.if-k-chunk.false) c.put_link.ensures
