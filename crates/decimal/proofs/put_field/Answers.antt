use Rattle.decimal.proofs.Puts.{field_put}
use Rattle.decimal.proofs.put_field.Goals as goal

pub returns : goal.returns
returns c =
    field_put c.args.at _ c.args.out.now c.requires c.put_bytes.ensures c.put.ensures
