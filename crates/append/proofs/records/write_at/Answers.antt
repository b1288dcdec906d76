use native.Mathlib.Omega.{arith}
use Rattle.handles.proofs.Laws.{store_facts}
use Rattle.record.proofs.Laws.{data_inside}
use Rattle.commit.proofs.Steps.{made_of}
use Rattle.append.proofs.Rolls.{fill_slice, fill_short}
use Rattle.append.proofs.Ways.{record_refused, record_done}
use Rattle.append.proofs.records.write_at.Goals as goal

pub number_at-number-requires : goal.number_at-number-requires
number_at-number-requires c =
    let h = (store_facts _ _ c.requires.0).head in
    (c.requires.1.position, h.size_most, omega (arith, c.requires.2, h.size_most))

pub write_record-w-requires : goal.write_record-w-requires
write_record-w-requires c =
    let h = (store_facts _ _ c.requires.0).head in
    let a = c.args in
    (data_inside a.store a.appender.chunk a.index _ c.requires.1.chunk c.requires.2 h.room, fill_short a.appender c.requires.1.fill)

pub returns-in-Err : goal.returns-in-Err
returns-in-Err c =
    let a = c.args in
    made_of c.stopped.ensures (record_refused a.volume.now a.medium a.store a.appender a.index c.number_at-number.ensures
    (fill_slice a.appender) c.write_record-w.ensures c.in-Err.is)

pub filed-next-requires : goal.filed-next-requires
filed-next-requires c =
    omega (
      arith,
      c.requires.2,
      (store_facts _ _ c.requires.0).head.size_most,
    )

pub returns : goal.returns
returns c =
    let a = c.args in
    made_of c.finished.ensures (record_done a.volume.now a.medium a.store a.appender a.index c.number_at-number.ensures
    (fill_slice a.appender) c.write_record-w.ensures c.in_default.is c.filed-next.ensures)
