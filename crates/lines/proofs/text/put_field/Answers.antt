use native.Mathlib.Omega.{arith}
use Rattle.lines.specs.Text.{field_text}
use Rattle.lines.proofs.Pens.{field_few}
use Rattle.lines.proofs.text.put_field.Goals as goal

pub put_field-requires : goal.put_field-requires
unfolding field_text
put_field-requires c = omega (arith, c.requires, field_few c.args.n)

pub returns : goal.returns
unfolding field_text
returns c =
    (c.put_field.ensures, omega (arith, c.put_field.ensures.1, field_few c.args.n))
