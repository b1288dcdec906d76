use Rattle.header.specs.Copies.{takes_b}
use Rattle.header.proofs.takes_b.Goals as goal

pub returns : goal.returns
unfolding takes_b
returns c = rw (c.is_ours-2.ensures, c.is_ours.ensures)
