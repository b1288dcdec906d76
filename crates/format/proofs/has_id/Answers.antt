use Rattle.format.specs.Format.{has_id}
use Rattle.format.proofs.has_id.Goals as goal

pub returns : goal.returns
unfolding has_id
returns c = rw (c.is_ours-2.ensures, c.is_ours.ensures)
