use Rattle.bridge.specs.Calls.{free_count_at}
use Rattle.bridge.proofs.port_free_count.Goals as goal

pub returns : goal.returns
unfolding free_count_at
returns c =
    rw (
      ← c.medium_in.ensures,
      ← c.store_in.ensures,
      ← c.free_count-r.ensures,
      c.count_code.ensures,
      c.count_words.ensures,
      c.medium_words.ensures,
    )
