use Rattle.bridge.specs.Calls.{record_at}
use Rattle.bridge.proofs.port_record.Goals as goal

pub returns : goal.returns
unfolding record_at
returns c =
    rw (
      ← c.reader_in-rd.ensures,
      ← c.store_in.ensures,
      ← c.record-n.ensures,
      c.numbered_code.ensures,
      c.numbered_words.ensures,
    )
