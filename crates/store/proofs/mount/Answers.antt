use mathlib.Core.Path.{sym, ap, ◌∙◌}
use Rattle.medium.specs.Refusal.{on_done}
use Rattle.handles.proofs.Laws.{store_facts}
use Rattle.header.specs.declared.answers.Mounted.{Mounted}
use Rattle.header.proofs.Accepted.{mount_ok}
use Rattle.store.specs.Reading.{mount_call}
use Rattle.store.proofs.mount.Goals as goal

pub returns-in-Err : goal.returns-in-Err
unfolding mount_call on_done
returns-in-Err c = rw (← c.mount-m.ensures, c.in-Err.is)

pub filled-store-requires : goal.filled-store-requires
filled-store-requires c =
    let a = c.args in
    let e = c.mount-m.ensures in
    let f = store_facts _ _ (mount_ok a.volume.now a.medium (ap (λ (r : Mounted). r.outcome) (sym e) ∙ c.in_default.is)) in
    (f.enough, rw e f.head.chunks_most)

pub returns : goal.returns
unfolding mount_call on_done
returns c = rw (← c.mount-m.ensures, c.in_default.is, c.filled-store.ensures)
