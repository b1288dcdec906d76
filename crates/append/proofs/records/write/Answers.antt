use Rattle.commit.proofs.Steps.{made_of}
use lib.Dec.{lit≤}
use Rattle.append.proofs.Rolls.{reopened_few}
use Rattle.append.proofs.Ways.{write_here, write_full, write_reopened, write_closed}
use Rattle.append.proofs.records.write.Goals as goal

pub write_at-requires : goal.write_at-requires
write_at-requires c = (c.requires.0, c.requires.1, c.if-index-store.true)

pub returns-then-index-store : goal.returns-then-index-store
returns-then-index-store c =
    let a = c.args in
    write_here a.volume.now a.medium a.store a.appender c.in-At.is c.if-index-store.true c.write_at.ensures

pub write_next-requires : goal.write_next-requires
write_next-requires c = (c.requires.0, c.requires.1, lit≤ tt)

pub write_next-requires-in-Reopened : goal.write_next-requires-in-Reopened
write_next-requires-in-Reopened c = (
  c.requires.0,
  c.requires.1,
  reopened_few c.args.appender c.args.store _ _ c.requires.0 c.requires.1 c.in-Reopened.is,
)

pub returns-else-index-store : goal.returns-else-index-store
returns-else-index-store c =
    let a = c.args in
    write_full a.volume.now a.medium a.store a.appender c.in-At.is c.if-index-store.false c.write_next.ensures

pub returns-in-Reopened : goal.returns-in-Reopened
returns-in-Reopened c =
    let a = c.args in
    write_reopened a.volume.now a.medium a.store a.appender c.in-Reopened.is c.write_next-in-Reopened.ensures

pub returns-in-Closed : goal.returns-in-Closed
returns-in-Closed c =
    let a = c.args in
    made_of c.stopped.ensures (write_closed a.volume.now a.medium a.store a.appender c.in-Closed.is)
