use Rattle.bridge_write.specs.Writing.{appender_of}
use Rattle.bridge_write.proofs.appenders.appender_in.Goals as goal

pub returns : goal.returns
unfolding appender_of
returns c =
    rw (c.tail_in.ensures, c.narrow.ensures, c.narrow-2.ensures, c.narrow-3.ensures, c.narrow-4.ensures)
