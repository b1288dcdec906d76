use Rattle.record.proofs.Laws.{record_made}
use Rattle.record.proofs.put_record.Goals as goal

pub returns : goal.returns
returns c =
    record_made c.args.id c.args.file c.args.number c.args.payload.now c.args.sector.now c.requires.0
    c.put_bytes.ensures c.put_zeros.ensures c.put_u16.ensures c.put_u32.ensures
    c.put_u32-2.ensures c.put_u64.ensures c.put_bytes-2.ensures c.seal.ensures
