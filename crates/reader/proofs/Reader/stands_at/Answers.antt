use Rattle.reader.proofs.Facts.{reader_facts, number_fits}
use Rattle.reader.proofs.Reader.stands_at.Goals as goal

pub number_at-requires : goal.number_at-requires
number_at-requires c =
    let r = reader_facts _ _ c.requires.1 in
    number_fits c.args.store c.args.self c.args.self.index c.requires.0 r r.index
