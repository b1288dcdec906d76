use Rattle.bridge_points.specs.Points.{below_at}
use Rattle.bridge_points.proofs.port_upto_next.Goals as goal

pub returns : goal.returns
unfolding below_at
returns c =
    let u = c.put_upto.ensures in
    rw (
      ← c.upto_in-u.ensures,
      ← c.medium_in.ensures,
      ← c.store_in.ensures,
      ← c.next-r.ensures,
      c.next_code.ensures,
      c.next_words.ensures,
      u.0,
      u.1,
      c.medium_words.ensures,
    )
