use Rattle.std.proofs.Common.{◌∙◌}
use Rattle.bridge.proofs.Codes.{code_is}
use Rattle.bridge.specs.Calls.{seek_at}
use Rattle.bridge.proofs.port_seek.Goals as goal

pub returns : goal.returns
unfolding seek_at
returns c =
    rw (
      ← c.reader_in-rd.ensures,
      ← c.medium_in.ensures,
      ← c.store_in.ensures,
      ← c.seek-r.ensures,
      c.code.ensures ∙ code_is c.seek-r.result.outcome,
      c.reader_words.ensures,
      c.medium_words.ensures,
    )
