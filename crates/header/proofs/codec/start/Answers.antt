use Rattle.header.specs.Header.{magic}
use Rattle.header.proofs.Fill.{start_chain}
use Rattle.header.proofs.codec.start.Goals as goal

pub returns : goal.returns
unfolding magic
returns c =
    start_chain c.args.tables c.args.sector.now c.requires c.put_zeros.ensures c.put_bytes.ensures
    c.put_u16.ensures c.put_u16-2.ensures c.put_u16-3.ensures
