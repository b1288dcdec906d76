use borrow.Author.Tests.{not-false}
use borrow.Author.Tests.{not-true}
use Rattle.std.proofs.Common.{◌≡◌, length, rules}
use Rattle.append.proofs.Rolls.{dir_slice}
use Rattle.files.proofs.Ways.{ended_with, again_with, roll_none, roll_refused, roll_full, roll_again}
use Rattle.files.proofs.roll.Goals as goal

pub returns-then-not-rollover : goal.returns-then-not-rollover
returns-then-not-rollover c =
    let a = c.args in
    ended_with c.ended.ensures
    (roll_none a.rollover a.volume.now a.medium a.store (not-true _ c.if-not-rollover.true) c.refused.ensures)

pub slice_bounds-remove_oldest-end : goal.slice_bounds-remove_oldest-end
slice_bounds-remove_oldest-end c =
    let n : length c.args.rollover.dir.bytes ≡ 40 =
    search (rules, c.well_formed.1.1.1.0.0) in
    search (rules, n, c.requires.1 (not-false _ c.if-not-rollover.false))

pub returns-in-Err : goal.returns-in-Err
returns-in-Err c =
    let a = c.args in
    ended_with c.ended-in-Err.ensures (roll_refused a.rollover a.volume.now a.medium a.store (not-false _ c.if-not-rollover.false)
    (dir_slice a.rollover.dir) c.remove_oldest-g.ensures c.in-Err.is c.refused-in-Err.ensures)

pub returns-then-not-g : goal.returns-then-not-g
returns-then-not-g c =
    let a = c.args in
    ended_with c.ended-then-not-g.ensures (roll_full a.rollover a.volume.now a.medium a.store (not-false _ c.if-not-rollover.false)
    (dir_slice a.rollover.dir) c.remove_oldest-g.ensures c.in_default.is (not-true _ c.if-not-g.true)
    c.refused-then-not-g.ensures)

pub returns : goal.returns
returns c =
    let a = c.args in
    again_with c.rolled_over.ensures _ (roll_again a.rollover a.volume.now a.medium a.store (not-false _ c.if-not-rollover.false)
    (dir_slice a.rollover.dir) c.remove_oldest-g.ensures c.in_default.is (not-false _ c.if-not-g.false))
