use Rattle.bridge_write.specs.Writing.{oldest_at}
use Rattle.bridge_write.proofs.port_delete_oldest.Goals as goal

pub returns : goal.returns
unfolding oldest_at
returns c =
    let p = c.put_store.ensures in
    let d = c.delete_oldest-r.ensures in
    rw (
      ← c.medium_in.ensures,
      ← c.store_in.ensures,
      ← d.0,
      ← d.1,
      c.gone_code.ensures,
      c.gone_name.ensures,
      c.gone_words.ensures,
      p.0,
      p.1,
      c.medium_words.ensures,
    )
