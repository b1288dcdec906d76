use borrow.Author.Rules.{rules}
use borrow.Author.Tests.{not-false, not-true}
use Rattle.std.proofs.Common.{refl}
use Rattle.le.proofs.Turns.{told}
use Rattle.handles.proofs.Laws.{store_facts}
use Rattle.directory.proofs.Ranges.{look_free}
use Rattle.table.proofs.Mapped.{free_range}
use Rattle.files.proofs.Ways.{ended_with, turned_as, settled_by, round_unread, round_exists, round_crowded, round_untold, round_full, round_made}
use Rattle.files.proofs.round.Goals as goal

pub look-requires : goal.look-requires
look-requires c = (store_facts _ _ c.requires.0).enough

pub returns-then-seen : goal.returns-then-seen
returns-then-seen c =
    let a = c.args in
    ended_with c.ended-then-seen.ensures (settled_by (refl, c.refused-then-seen.ensures) (round_exists a.name.now a.rollover a.volume.now a.medium
    a.store c.look.ensures c.in-Ok.is c.if-seen.true))

pub returns-in_default : goal.returns-in_default
returns-in_default c =
    let a = c.args in
    turned_as c.roll.ensures (round_crowded a.name.now a.rollover a.volume.now a.medium a.store
    c.look.ensures c.in-Ok.is c.if-seen.false c.in_default.is)

pub free_chunk-p-requires : goal.free_chunk-p-requires
free_chunk-p-requires c =
    let h = store_facts _ _ c.requires.0 in
    (h.enough, h.head.chunks_most, h.head.cursor)

pub make-x-requires : goal.make-x-requires
make-x-requires c =
    let a = c.args in (
      c.requires.0,
      c.requires.1,
      (look_free a.volume.now a.medium a.store a.name.now (told c.look.ensures c.in-Ok.is) c.in-Some.is).below,
      free_range a.volume.now a.medium a.store (store_facts _ _ c.requires.0).map (told c.free_chunk-p.ensures (search rules)),
    )

pub returns-in-Err : goal.returns-in-Err
returns-in-Err c =
    let a = c.args in
    ended_with c.ended.ensures (settled_by (refl, c.refused.ensures)
    (round_unread a.name.now a.rollover a.volume.now a.medium a.store c.look.ensures c.in-Err.is))

pub returns-in-Err-p : goal.returns-in-Err-p
returns-in-Err-p c =
    let a = c.args in
    ended_with c.ended-in-Err-p.ensures (settled_by (refl, c.refused-in-Err-p.ensures) (round_untold a.name.now a.rollover a.volume.now a.medium
    a.store c.look.ensures c.in-Ok.is c.if-seen.false c.in-Some.is c.free_chunk-p.ensures c.in-Err-p.is))

pub returns-in-Ok-None : goal.returns-in-Ok-None
returns-in-Ok-None c =
    let a = c.args in
    turned_as c.roll-in-Ok-None.ensures (round_full a.name.now a.rollover a.volume.now a.medium a.store
    c.look.ensures c.in-Ok.is c.if-seen.false c.in-Some.is c.free_chunk-p.ensures (search rules))

pub returns-in-Ok-Some : goal.returns-in-Ok-Some
returns-in-Ok-Some c =
    let a = c.args in
    ended_with c.ended-in-Ok-Some.ensures (settled_by c.make-x.ensures (round_made a.name.now a.rollover a.volume.now a.medium a.store
    c.look.ensures c.in-Ok.is c.if-seen.false c.in-Some.is c.free_chunk-p.ensures (search rules)))
