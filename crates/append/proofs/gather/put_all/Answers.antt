use borrow.Author.Rules.{rules}
use mathlib.Core.Path.{◌≡◌, refl, ◌∙◌}
use Prim.Native.Nat.{zero-le}
use native.Mathlib.Omega.{arith}
use lib.ListN.{length}
use Rattle.commit.proofs.Steps.{made_of}
use Rattle.append.specs.Flush.{append_of}
use Rattle.append.proofs.Then.{along_same}
use Rattle.append.proofs.Runs.{turn_fits, put_stopped, put_end, again}
use Rattle.append.proofs.gather.put_all.Goals as goal

pub loop-i-init : goal.loop-i-init
loop-i-init c =
    let n : length c.args.store.head.crcs ≡ 24 = search (rules, c.well_formed.1.1.0.0) in
    record { low = zero-le; size = refl; good = record { ok = c.requires.0; count = n }; fit = c.requires.1; room = c.requires.2; same = (refl, refl) }

pub run_of-n-requires : goal.run_of-n-requires
run_of-n-requires c = c.loop-i.invariant.fit.fill

pub overflow_add-e : goal.overflow_add-e
overflow_add-e c =
    let t = (turn_fits c.args.bytes.now c.loop-i.i c.loop-i.a.fill c.run_of-n.ensures c.loop-i.invariant.room
    c.loop-i-test.true) in
    omega (arith, t.0, c.well_formed.1.1.1.1.0)

pub slice_bounds-put_run-end : goal.slice_bounds-put_run-end
slice_bounds-put_run-end c =
    let t = turn_fits c.args.bytes.now c.loop-i.i c.loop-i.a.fill c.run_of-n.ensures
    c.loop-i.invariant.room c.loop-i-test.true in
    t.0

pub put_run-x-requires : goal.put_run-x-requires
put_run-x-requires c =
    let t = turn_fits c.args.bytes.now c.loop-i.i c.loop-i.a.fill c.run_of-n.ensures
    c.loop-i.invariant.room c.loop-i-test.true in
    (c.loop-i.invariant.good.ok, c.loop-i.invariant.fit, t.2, t.3)

pub shape_of-volume-in-Err : goal.shape_of-volume-in-Err
shape_of-volume-in-Err c =
    c.put_run-x.auto.volume ∙ c.loop-i.invariant.size

pub returns-in-Err : goal.returns-in-Err
returns-in-Err c =
    let l = c.loop-i in
    let g = c.args in
    along_same (append_of _ l.volume l.m l.s l.a) (append_of g.bytes.now g.volume.now g.medium g.store g.appender)
    (put_stopped g.bytes.now l.i l.volume l.m l.s l.a _ c.put_run-x.ensures c.in-Err.is) l.invariant.same

pub loop-i-smaller : goal.loop-i-smaller
loop-i-smaller c =
    let t = (turn_fits c.args.bytes.now c.loop-i.i c.loop-i.a.fill c.run_of-n.ensures
    c.loop-i.invariant.room c.loop-i-test.true) in
    omega (arith, t.0, t.1, c.loop-i-test.true)

pub loop-i-preserved : goal.loop-i-preserved
loop-i-preserved c =
    let l = c.loop-i in
    let g = c.args in
    again g.bytes.now g.volume.now g.medium g.store g.appender l.volume l.m l.s l.a l.i _ l.invariant c.run_of-n.ensures
    c.loop-i-test.true c.put_run-x.ensures c.in_default.is

pub shape_of-volume : goal.shape_of-volume
shape_of-volume c = c.loop-i.invariant.size

pub returns : goal.returns
returns c =
    let l = c.loop-i in
    let g = c.args in
    made_of c.finished.ensures (along_same (append_of _ l.volume l.m l.s l.a)
    (append_of g.bytes.now g.volume.now g.medium g.store g.appender)
    (put_end g.bytes.now l.i l.volume l.m l.s l.a c.loop-i-test.false) l.invariant.same)
