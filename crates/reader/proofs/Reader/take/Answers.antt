use mathlib.Core.Path.{refl}
use Rattle.reader.proofs.Finds.{take_payload}
use Rattle.reader.proofs.Facts.{reader_facts, number_needs}
use Rattle.reader.proofs.Reader.take.Goals as goal

pub number_at-number-requires : goal.number_at-number-requires
number_at-number-requires c =
    let r = reader_facts _ _ c.requires.1 in
    number_needs c.args.store c.args.self _ c.args.self.index c.requires.0 r r.index

pub returns-in-Ok-Some : goal.returns-in-Ok-Some
returns-in-Ok-Some c =
    let a = c.args in
    take_payload a.volume.now a.medium a.store a.self a.out.now c.number_at-number.ensures c.record.ensures (rw c.in-Ok-Some.field-0-is at c.in-Ok-Some.is) c.data.ensures refl c.put_bytes.ensures c.moved_to.ensures
