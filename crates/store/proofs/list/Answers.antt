use native.Mathlib.Omega.{arith}
use Rattle.store.proofs.Laws.{asked_done, cleared_zero}
use Rattle.store.proofs.Lists.{roomy, short_refused, input_refused, count_refused, rows_told_lem}
use Rattle.store.proofs.list.Goals as goal

pub returns-then-rows-counts : goal.returns-then-rows-counts
returns-then-rows-counts c =
    let a = c.args in
    short_refused a.volume.now a.medium a.store a.dir.now a.counts.now a.rows.now c.if-rows-counts.true c.not_listed.ensures

pub returns-in-Err : goal.returns-in-Err
returns-in-Err c =
    let a = c.args in
    input_refused a.volume.now a.medium a.store a.dir.now a.counts.now a.rows.now c.if-rows-counts.false
    c.dir_ok.ensures c.asked-o.ensures c.in-Err.is c.not_listed-in-Err.ensures

pub clear_counts-requires : goal.clear_counts-requires
clear_counts-requires c =
    let a = c.args in
    (roomy a.counts.now a.rows.now c.if-rows-counts.false).1

pub count-c-requires : goal.count-c-requires
count-c-requires c =
    let a = c.args in
    let h = ((asked_done a.volume.now a.store _ c.asked-o.ensures c.in_default.is).held) in
    let n = roomy a.counts.now a.rows.now c.if-rows-counts.false in (
      h.enough,
      h.head.chunks_most,
      omega (arith, c.clear_counts.auto, n),
      cleared_zero a.counts.now c.clear_counts.ensures,
    )

pub returns-in-Err-c : goal.returns-in-Err-c
returns-in-Err-c c =
    let a = c.args in
    count_refused a.volume.now a.medium a.store a.dir.now a.counts.now a.rows.now c.if-rows-counts.false
    c.dir_ok.ensures c.asked-o.ensures c.in_default.is
    c.clear_counts.ensures c.count-c.ensures c.in-Err-c.is c.not_listed-in-Err-c.ensures

pub list_rows-made-requires : goal.list_rows-made-requires
list_rows-made-requires c =
    let a = c.args in
    let h = ((asked_done a.volume.now a.store _ c.asked-o.ensures c.in_default.is).held) in
    let n = roomy a.counts.now a.rows.now
    c.if-rows-counts.false in (
      h.enough,
      omega (
        arith,
        c.clear_counts.auto,
        c.count-c.auto,
        n,
      ),
      n.0,
    )

pub returns : goal.returns
returns c =
    let a = c.args in
    rows_told_lem a.volume.now a.medium a.store a.dir.now a.counts.now a.rows.now c.if-rows-counts.false
    c.dir_ok.ensures c.asked-o.ensures c.in_default.is
    c.clear_counts.ensures c.count-c.ensures c.in_default-c.is c.list_rows-made.ensures
