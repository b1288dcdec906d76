use Rattle.le.specs.Choice.{pick}
use Rattle.format.specs.Format.{newest_of}
use Rattle.format.proofs.newest.Goals as goal

pub returns-then-takes_b : goal.returns-then-takes_b
unfolding newest_of pick
returns-then-takes_b c = rw (← c.takes_b.ensures, c.if-takes_b.true)

pub returns-then-is_ours : goal.returns-then-is_ours
unfolding newest_of pick
returns-then-is_ours c = rw (← c.takes_b.ensures, c.if-takes_b.false, ← c.is_ours.ensures, c.if-is_ours.true)

pub returns : goal.returns
unfolding newest_of pick
returns c = rw (← c.takes_b.ensures, c.if-takes_b.false, ← c.is_ours.ensures, c.if-is_ours.false)
