use Rattle.medium.specs.Refusal.{on_done}
use Rattle.header.specs.Copies.{current_of, choice_of, takes_b}
use Rattle.header.proofs.current.Goals as goal

pub returns-in-Err : goal.returns-in-Err
unfolding current_of on_done
returns-in-Err c = rw (← c.headers-c.ensures, c.in-Err.is) c.no_current.ensures

pub returns : goal.returns
unfolding current_of on_done choice_of takes_b
returns c = rw (← c.headers-c.ensures, c.in_default.is) c.choice.ensures
