use Rattle.le.specs.Part.{part}
use Rattle.header.specs.Header.{fixed_ok, zero_from}
use Rattle.header.proofs.codec.fixed_ok.Goals as goal

pub returns : goal.returns
unfolding fixed_ok zero_from part
returns c =
    rw (
      c.table.ensures,
      c.all_zero-c.ensures,
      c.body.ensures,
      c.all_zero-b.ensures,
      c.all_zero-a.ensures,
      c.get_u16-tables.ensures,
      c.get_u16-eight.ensures,
      c.get_u16-version.ensures,
    )
