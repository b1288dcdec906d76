use mathlib.Core.Path.{refl}
use Rattle.bridge_points.specs.Points.{upto_limit}
use Rattle.bridge_points.proofs.uptos.put_upto.Goals as goal

pub returns : goal.returns
unfolding upto_limit
returns c = (c.reader_words.ensures, refl)
