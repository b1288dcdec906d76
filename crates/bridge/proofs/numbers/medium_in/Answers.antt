use Rattle.bridge.specs.Numbers.{medium_of}
use Rattle.bridge.proofs.numbers.medium_in.Goals as goal

pub returns : goal.returns
unfolding medium_of
returns c = rw (c.narrow.ensures, c.narrow-2.ensures)
