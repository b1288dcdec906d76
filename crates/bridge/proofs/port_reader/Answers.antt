use Rattle.std.proofs.Common.{◌∙◌}
use Rattle.bridge.proofs.Codes.{code_is}
use Rattle.bridge.specs.Calls.{reader_at}
use Rattle.bridge.proofs.port_reader.Goals as goal

pub returns : goal.returns
unfolding reader_at
returns c =
    rw (
      ← c.medium_in.ensures,
      ← c.store_in.ensures,
      ← c.reader-r.ensures,
      c.code.ensures ∙ code_is c.reader-r.result.outcome,
      c.reader_words.ensures,
      c.medium_words.ensures,
    )
