use Rattle.std.proofs.Common.{◌∙◌}
use Rattle.bridge_points.specs.Points.{set_at}
use Rattle.bridge_points.proofs.Codes.{set_code}
use Rattle.bridge_points.proofs.port_set_point.Goals as goal

pub returns : goal.returns
unfolding set_at
returns c =
    let a = c.put_appender.ensures in
    let p = c.put_store.ensures in
    let d = c.set_point-r.ensures in
    rw (
      ← c.medium_in.ensures,
      ← c.store_in.ensures,
      ← d.0,
      ← d.1,
      c.code.ensures ∙ set_code c.set_point-r.result.outcome,
      c.flag-opened.ensures,
      c.is_some.ensures,
      c.unwrap_or-number.ensures,
      a.0,
      a.1,
      a.2,
      c.unwrap_or-own.ensures,
      c.no_appender.ensures,
      p.0,
      p.1,
      c.medium_words.ensures,
    )
