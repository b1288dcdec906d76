use borrow.Author.Rules.{rules}
use Rattle.le.proofs.Turns.{told}
use Rattle.handles.proofs.Laws.{store_facts}
use Rattle.table.proofs.Mapped.{free_range}
use Rattle.commit.proofs.Steps.{made_of}
use Rattle.append.proofs.Ways.{extend_far, extend_unread, extend_full, extend_rolled, extend_linked}
use Rattle.append.proofs.chunks.extend.Goals as goal

pub returns-then-appender-ge32767 : goal.returns-then-appender-ge32767
returns-then-appender-ge32767 c =
    let a = c.args in
    made_of c.stopped.ensures (extend_far a.volume.now a.medium a.store a.appender a.partial a.records c.if-appender-ge32767.true)

pub free_chunk-p-requires : goal.free_chunk-p-requires
free_chunk-p-requires c = let h = store_facts _ _ c.requires.0 in (h.enough, h.head.chunks_most, h.head.cursor)

pub rolled-requires : goal.rolled-requires
rolled-requires c =
    (c.requires.0, c.requires.1, c.if-appender-ge32767.false, c.requires.2, c.if-appender.true)

pub returns-then-appender : goal.returns-then-appender
returns-then-appender c =
    let a = c.args in
    extend_rolled a.volume.now a.medium a.store a.appender a.partial a.records c.if-appender-ge32767.false
    c.free_chunk-p.ensures (search rules) c.if-appender.true c.rolled.ensures

pub link-requires : goal.link-requires
link-requires c = (
  c.requires.0,
  c.requires.1,
  c.if-appender-ge32767.false,
  c.requires.2,
  free_range _ _ _ (store_facts _ _ c.requires.0).map (told c.free_chunk-p.ensures (search rules)),
)

pub returns-in-Err : goal.returns-in-Err
returns-in-Err c =
    let a = c.args in
    made_of c.stopped-in-Err.ensures (extend_unread a.volume.now a.medium a.store a.appender a.partial a.records
    c.if-appender-ge32767.false c.free_chunk-p.ensures c.in-Err.is)

pub returns-else-appender : goal.returns-else-appender
returns-else-appender c =
    let a = c.args in
    made_of c.stopped-in-Ok-None.ensures (extend_full a.volume.now a.medium a.store a.appender a.partial a.records
    c.if-appender-ge32767.false c.free_chunk-p.ensures (search rules) c.if-appender.false)

pub returns-in-Ok-Some : goal.returns-in-Ok-Some
returns-in-Ok-Some c =
    let a = c.args in
    extend_linked a.volume.now a.medium a.store a.appender a.partial a.records c.if-appender-ge32767.false
    c.free_chunk-p.ensures (search rules) c.link.ensures
