use Rattle.bridge.specs.Calls.{find_at}
use Rattle.bridge.proofs.port_find.Goals as goal

pub returns : goal.returns
unfolding find_at
returns c =
    rw (
      ← c.medium_in.ensures,
      ← c.store_in.ensures,
      ← c.find-r.ensures,
      c.found_code.ensures,
      c.found_words.ensures,
      c.medium_words.ensures,
    )
