use Rattle.std.proofs.Common.{◌^◌, ◌<◌, refl, arith, rules}
use Rattle.plan.specs.Copy.{is_format}
use Rattle.files.proofs.Ways.{make_spent, make_refused, make_done}
use Rattle.files.proofs.make.Goals as goal

pub returns-then-id : goal.returns-then-id
returns-then-id c =
    let a = c.args in
    make_spent a.name.now a.rollover a.volume.now a.medium a.store a.slot a.chunk c.if-id.true c.refused.ensures

pub commit-c-requires : goal.commit-c-requires
unfolding is_format
commit-c-requires c =
    let p = c.requires in
    let n : c.args.store.head.next_id < 2 ^ 32 = search (rules, c.well_formed.1.1.0.0) in
    (p.0, (p.2, omega (arith, n, c.if-id.false), p.3), refl, p.1)

pub returns-in-Err : goal.returns-in-Err
returns-in-Err c =
    let a = c.args in
    make_refused a.name.now a.rollover a.volume.now a.medium a.store a.slot a.chunk c.if-id.false
    c.commit-c.ensures c.in-Err.is c.refused-in-Err.ensures

pub returns : goal.returns
returns c =
    let a = c.args in
    make_done a.name.now a.rollover a.volume.now a.medium a.store a.slot a.chunk c.if-id.false
    c.commit-c.ensures c.in_default.is c.opened.ensures
