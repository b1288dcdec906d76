use borrow.Author.Rules.{rules}
use native.Mathlib.Omega.{arith}
use Rattle.le.specs.Part.{part, zeros}
use Rattle.directory.specs.Entry.{entry_at}
use Rattle.handles.proofs.Laws.{store_facts}
use Rattle.commit.proofs.Steps.{made_of}
use Rattle.remove.specs.Remove.{remove_of}
use Rattle.remove.proofs.Ways.{whole_name, gone_refused, gone_done}
use Rattle.remove.proofs.take_away.Goals as goal

pub slice_bounds-put_bytes-end-2 : goal.slice_bounds-put_bytes-end-2
slice_bounds-put_bytes-end-2 c = omega (arith, (store_facts _ _ c.requires.0).enough, c.entry_place-a.ensures.1)

pub put_bytes-requires : goal.put_bytes-requires
put_bytes-requires c = search (rules, (store_facts _ _ c.requires.0).enough)

pub returns-in-Err : goal.returns-in-Err
returns-in-Err c =
    let a = c.args in
    made_of c.none_gone.ensures (gone_refused (part 0 40 (entry_at a.volume.now a.store a.old.slot)) a.old.len
    (remove_of a.volume.now a.medium a.store a.old.slot a.old.id) c.remove-c.ensures c.in-Err.is)

pub returns : goal.returns
unfolding zeros
returns c =
    let a = c.args in
    let n = whole_name a.volume.now a.store a.old.slot
    c.entry_place-a.ensures.0
    (omega (
      arith,
      (store_facts _ _
          c.requires.0).enough,
      c.entry_place-a.ensures.1,
    )) c.put_bytes.ensures in
    gone_done (part 0 40 (entry_at a.volume.now a.store a.old.slot)) a.old.len
    (remove_of a.volume.now a.medium a.store a.old.slot a.old.id) c.remove-c.ensures
    c.in_default.is n
