use borrow.Author.Rules.{rules}
use mathlib.Core.Path.{◌≡◌}
use lib.ListN.{length}
use Rattle.append.proofs.Rolls.{extended_after}
use Rattle.handles.proofs.Laws.{store_facts}
use Rattle.append.proofs.Ways.{next_refused, next_written}
use Rattle.append.proofs.records.write_next.Goals as goal

pub returns-in-Err : goal.returns-in-Err
returns-in-Err c =
    let a = c.args in
    next_refused a.volume.now a.medium a.store a.appender a.partial a.records c.extend-x.ensures c.in-Err.is

pub write_at-requires : goal.write_at-requires
write_at-requires c =
    let count : length c.args.store.head.crcs ≡ 24 = search (rules, c.well_formed.1.1.0.0) in
    let a = c.args in
    let k = extended_after a.volume.now a.medium a.store a.appender c.requires.0 count c.requires.1 a.partial a.records
    c.extend-x.ensures in
    (k.ok, k.fit, (store_facts _ _ k.ok).head.size_least)

pub returns : goal.returns
returns c =
    let a = c.args in
    next_written a.volume.now a.medium a.store a.appender a.partial a.records c.extend-x.ensures
    c.in_default.is c.write_at.ensures
