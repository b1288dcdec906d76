use Rattle.bridge_write.specs.Writing.{appender_words}
use Rattle.bridge_write.proofs.appenders.appender_words.Goals as goal

pub returns : goal.returns
unfolding appender_words
returns c =
    let t = c.tail_numbers-kind.ensures in
    rw (t.0, t.1, c.flag.ensures)
