use native.Mathlib.Omega.{arith}
use Rattle.reader.proofs.Facts.{reader_facts, limit_most, number_needs}
use Rattle.reader.proofs.Finds.{hole_within, hole_refused}
use Rattle.reader.proofs.Reader.hole.Goals as goal

pub search-requires : goal.search-requires
search-requires c =
    let l = limit_most c.args.self.end c.args.store.head.chunk (reader_facts _ _ c.requires.1).end in
    (c.requires.0, c.requires.1, omega (arith, c.requires.2, c.limit-limit.ensures), omega (arith, l, c.limit-limit.ensures))

pub number_at-from-requires : goal.number_at-from-requires
number_at-from-requires c =
    let r = reader_facts _ _ c.requires.1 in
    number_needs c.args.store c.args.self _ c.args.self.index c.requires.0 r r.index

pub number_at-past-requires : goal.number_at-past-requires
number_at-past-requires c =
    let r = reader_facts _ _ c.requires.1 in
    number_needs c.args.store c.args.self _ _ c.requires.0 r (hole_within c.args.volume.now c.args.medium
    c.args.store c.args.self c.limit-limit.ensures c.search.ensures r c.requires.2 c.in-Ok.is)

pub returns-in-Err : goal.returns-in-Err
returns-in-Err c =
    let a = c.args in
    hole_refused a.volume.now a.medium a.store a.self c.limit-limit.ensures c.search.ensures c.in-Err.is
