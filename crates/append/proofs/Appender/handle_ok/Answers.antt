use Rattle.append.specs.Appender.{appender_ok}
use Rattle.append.proofs.Appender.handle_ok.Goals as goal

pub returns : goal.returns
unfolding appender_ok
returns c =
    rw (c.dir_ok-fine.ensures, c.fill_ok.ensures, c.tail_ok.ensures)
