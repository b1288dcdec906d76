use Rattle.header.proofs.Fill.{fields_chain}
use Rattle.header.proofs.codec.fields.Goals as goal

pub returns : goal.returns
returns c =
    let a = c.args.head in
    fields_chain a c.table.ensures c.start.ensures c.put_u64.ensures c.put_u64-2.ensures
    c.put_u32.ensures c.put_u32-2.ensures c.put_u32-3.ensures c.put_u32-4.ensures
