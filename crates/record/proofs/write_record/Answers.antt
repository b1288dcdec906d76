use mathlib.Core.List.{List}
use Prim.Native.Nat.{ℕ}
use Rattle.medium.proofs.Laws.{write_refused, write_done, in_place}
use Rattle.record.specs.Record.{data_at, record_of}
use mathlib.Core.Path.{◌∙◌}
use Rattle.record.proofs.write_record.Goals as goal

pub returns-in-Err : goal.returns-in-Err
returns-in-Err c =
    let a = c.args in
    let r : List ℕ = record_of a.store.head.id a.id a.number a.payload.now in
    write_refused a.volume.now a.medium (data_at a.store a.chunk a.index) r c.spend-written.ensures c.in-Err.is

pub returns : goal.returns
returns c =
    let a = c.args in
    let r : List ℕ = record_of a.store.head.id a.id a.number a.payload.now in
    write_done a.volume.now a.medium (data_at a.store a.chunk a.index) r c.spend-written.ensures c.in_default.is
    (in_place a.volume.now r c.data.ensures c.put_record.ensures
    (c.put_record.auto.sector ∙ c.put_record-arg-1.given.2))
