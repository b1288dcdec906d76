use Rattle.bridge_points.specs.Points.{upto_of}
use Rattle.bridge_points.proofs.uptos.upto_in.Goals as goal

pub returns : goal.returns
unfolding upto_of
returns c = rw (c.reader_in.ensures, c.narrow.ensures)
