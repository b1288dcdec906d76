use Rattle.header.proofs.Fill.{encode_chain}
use Rattle.header.proofs.codec.encode.Goals as goal

pub returns : goal.returns
returns c =
    encode_chain c.args.head c.fields.ensures c.body.ensures
    c.put_crcs.ensures c.seal.ensures
