use Rattle.handles.proofs.Laws.{store_facts}
use Rattle.reopen.proofs.Ways.{no_chain_lem, last_placed, no_count, file_opened}
use Rattle.reopen.proofs.open_file.Goals as goal

pub chain-requires : goal.chain-requires
chain-requires c = let h = store_facts _ _ c.requires in (h.enough, h.head.chunks_most)

pub overflow_sub-position : goal.overflow_sub-position
overflow_sub-position c =
    let a = c.args in
    (last_placed a.rollover a.volume.now a.medium a.store a.slot a.id c.chain.ensures c.in-Ok.is
    c.requires).0

pub count_records-requires : goal.count_records-requires
count_records-requires c =
    let a = c.args in
    let l = last_placed a.rollover a.volume.now a.medium a.store a.slot a.id c.chain.ensures c.in-Ok.is
    c.requires in
    (c.requires, l.1, l.2)

pub returns-in-Err : goal.returns-in-Err
returns-in-Err c =
    let a = c.args in
    no_chain_lem a.rollover a.volume.now a.medium a.store a.slot a.id c.chain.ensures c.in-Err.is
    c.refused.ensures

pub returns-in-Err-count_records : goal.returns-in-Err-count_records
returns-in-Err-count_records c =
    let a = c.args in
    no_count a.rollover a.volume.now a.medium a.store a.slot a.id c.chain.ensures c.in-Ok.is
    c.count_records.ensures c.in-Err-count_records.is c.refused-in-Err-count_records.ensures

pub returns-in-Ok-count_records : goal.returns-in-Ok-count_records
returns-in-Ok-count_records c =
    let a = c.args in
    file_opened a.rollover a.volume.now a.medium a.store a.slot a.id c.chain.ensures c.in-Ok.is
    c.count_records.ensures c.in-Ok-count_records.is c.tail_for-tail.ensures c.opened.ensures
