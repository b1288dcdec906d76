use Rattle.bridge.specs.Calls.{next_at}
use Rattle.bridge.proofs.port_next.Goals as goal

pub returns : goal.returns
unfolding next_at
returns c =
    rw (
      ← c.reader_in-rd.ensures,
      ← c.medium_in.ensures,
      ← c.store_in.ensures,
      ← c.next-r.ensures,
      c.next_code.ensures,
      c.next_words.ensures,
      c.reader_words.ensures,
      c.medium_words.ensures,
    )
