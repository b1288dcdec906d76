use Rattle.std.proofs.Common.{◌∙◌}
use Rattle.bridge.proofs.Codes.{code_is}
use Rattle.bridge.specs.Calls.{list_at}
use Rattle.bridge.proofs.port_list.Goals as goal

pub returns : goal.returns
unfolding list_at
returns c =
    rw (
      ← c.medium_in.ensures,
      ← c.store_in.ensures,
      ← c.list-r.ensures,
      c.code.ensures ∙ code_is c.list-r.result.outcome,
      c.medium_words.ensures,
    )
