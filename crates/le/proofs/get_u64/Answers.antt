use native.Mathlib.Omega.{arith}
use mathlib.Core.Path.{◌∙◌}
use Rattle.le.proofs.Fields.{get_join}
use Rattle.le.proofs.get_u64.Goals as goal

pub returns : goal.returns
returns c =
    get_join 4 4 c.args.offset c.args.bytes.now _ _ (omega arith) (c.from-low.ensures ∙ c.get_u32.ensures)
    (c.from-high.ensures ∙ c.get_u32-2.ensures)
