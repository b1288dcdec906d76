use borrow.Author.Tests.{lt-ltb, le-ltb}
use Rattle.le.specs.Choice.{pick}
use Rattle.append.specs.Flush.{run_of}
use Rattle.append.proofs.gather.run_of.Goals as goal

pub returns-then-left-fill : goal.returns-then-left-fill
unfolding run_of pick
returns-then-left-fill c = rw (lt-ltb _ _ c.if-left-fill.true)

pub returns : goal.returns
unfolding run_of pick
returns c = rw (le-ltb _ _ c.if-left-fill.false)
