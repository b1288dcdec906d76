use borrow.Author.Tests.{not-false}
use borrow.Author.Tests.{not-true}
use borrow.Author.Rules.{rules}
use mathlib.Core.Path.{◌≡◌, ◌∙◌}
use lib.ListN.{length}
use Rattle.handles.proofs.Laws.{store_facts}
use Rattle.table.proofs.Mapped.{free_range}
use Rattle.commit.proofs.Steps.{made_of}
use Rattle.append.proofs.Rolls.{dir_slice, After, rolled_after}
use Rattle.append.proofs.Ways.{rolled_refused, rolled_none, rolled_unread, rolled_corrupt, rolled_linked}
use Rattle.le.proofs.Turns.{told}
use Rattle.append.proofs.chunks.rolled.Goals as goal

pub slice_bounds-remove_oldest-end : goal.slice_bounds-remove_oldest-end
slice_bounds-remove_oldest-end c =
    let n : length c.args.appender.dir.bytes ≡ 40 =
    search (rules, c.well_formed.1.1.1.0) in
    search (rules, n, c.requires.1.dir c.requires.4)

pub remove_oldest-g-requires : goal.remove_oldest-g-requires
remove_oldest-g-requires c = c.requires.0

pub returns-in-Err : goal.returns-in-Err
returns-in-Err c =
    let a = c.args in
    made_of c.stopped.ensures (rolled_refused a.volume.now a.medium a.store a.appender a.partial a.records (dir_slice a.appender.dir)
    c.open_file-spared.ensures c.remove_oldest-g.ensures c.in-Err.is)

pub returns-then-not-g : goal.returns-then-not-g
returns-then-not-g c =
    let a = c.args in
    made_of c.stopped-then-not-g.ensures (rolled_none a.volume.now a.medium a.store a.appender a.partial a.records (dir_slice a.appender.dir)
    c.open_file-spared.ensures c.remove_oldest-g.ensures c.in_default.is
    (not-true _ c.if-not-g.true))

pub free_chunk-p-requires : goal.free_chunk-p-requires
free_chunk-p-requires c =
    let count : length c.args.store.head.crcs ≡ 24 = search (rules, c.well_formed.1.1.0.0) in
    let after : After c.remove_oldest-g.new.volume c.remove_oldest-g.result.store c.args.appender = rolled_after c.args.volume.now c.args.medium c.args.store c.args.appender c.requires.0 count c.requires.1 _ _ c.remove_oldest-g.ensures in
    let h = store_facts _ _ after.ok in
    (h.enough, h.head.chunks_most, h.head.cursor)

pub link-requires : goal.link-requires
link-requires c =
    let count : length c.args.store.head.crcs ≡ 24 = search (rules, c.well_formed.1.1.0.0) in
    let after : After c.remove_oldest-g.new.volume c.remove_oldest-g.result.store c.args.appender = rolled_after c.args.volume.now c.args.medium c.args.store c.args.appender c.requires.0 count c.requires.1 _ _ c.remove_oldest-g.ensures in
    (after.ok, after.fit, c.requires.2, c.requires.3, free_range _ _ _ (store_facts _ _ after.ok).map (told c.free_chunk-p.ensures (search rules)))

pub shape_of-volume-in-Err-p : goal.shape_of-volume-in-Err-p
shape_of-volume-in-Err-p c = c.remove_oldest-g.auto.volume

pub returns-in-Err-p : goal.returns-in-Err-p
returns-in-Err-p c =
    let a = c.args in
    made_of c.stopped-in-Err-p.ensures (rolled_unread a.volume.now a.medium a.store a.appender a.partial a.records (dir_slice a.appender.dir)
    c.open_file-spared.ensures c.remove_oldest-g.ensures c.in_default.is
    (not-false _ c.if-not-g.false) c.free_chunk-p.ensures c.in-Err-p.is)

pub shape_of-volume-in-Ok-None : goal.shape_of-volume-in-Ok-None
shape_of-volume-in-Ok-None c = c.remove_oldest-g.auto.volume

pub returns-in-Ok-None : goal.returns-in-Ok-None
returns-in-Ok-None c =
    let a = c.args in
    made_of c.stopped-in-Ok-None.ensures (rolled_corrupt a.volume.now a.medium a.store a.appender a.partial a.records
    (dir_slice a.appender.dir) c.open_file-spared.ensures c.remove_oldest-g.ensures
    c.in_default.is (not-false _ c.if-not-g.false) c.free_chunk-p.ensures
    (search rules))

pub shape_of-volume-in-Ok-Some : goal.shape_of-volume-in-Ok-Some
shape_of-volume-in-Ok-Some c = c.link.auto.volume ∙ c.remove_oldest-g.auto.volume

pub returns-in-Ok-Some : goal.returns-in-Ok-Some
returns-in-Ok-Some c =
    let a = c.args in
    rolled_linked a.volume.now a.medium a.store a.appender a.partial a.records (dir_slice a.appender.dir)
    c.open_file-spared.ensures c.remove_oldest-g.ensures c.in_default.is
    (not-false _ c.if-not-g.false) c.free_chunk-p.ensures (search rules) c.link.ensures
