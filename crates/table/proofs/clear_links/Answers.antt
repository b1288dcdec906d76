use borrow.Author.Rules.{rules}
use mathlib.Core.Path.{refl}
use Rattle.walk.proofs.Laws.{at_start, at_next, at_end}
use Rattle.table.specs.Link.{cleared_of}
use Rattle.table.proofs.clear_links.Goals as goal

pub loop-i-init : goal.loop-i-init
unfolding cleared_of
loop-i-init c = (at_start _ _ _ _ _, refl)

pub loop-i-preserved : goal.loop-i-preserved
loop-i-preserved c = (
  rw c.clear_link.ensures (at_next c.loop-i.invariant.0 c.loop-i-test.true refl refl refl),
  search rules,
)

pub returns : goal.returns
returns c = at_end c.loop-i.invariant.0 c.loop-i-test.false
