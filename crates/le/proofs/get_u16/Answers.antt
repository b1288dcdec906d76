use mathlib.Core.Path.{◌∙◌}
use Rattle.le.proofs.Fields.{get_two}
use Rattle.le.proofs.get_u16.Goals as goal

pub returns : goal.returns
returns c = c.from_le_bytes.ensures ∙ get_two _ _ c.requires
