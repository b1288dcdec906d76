use mathlib.Core.Path.{sym, ◌∙◌}
use Rattle.handles.proofs.Laws.{store_facts}
use Rattle.directory.proofs.Ranges.{oldest_file}
use Rattle.commit.proofs.Steps.{made_of}
use Rattle.remove.proofs.Ways.{oldest_refused, oldest_none, oldest_goes}
use Rattle.remove.proofs.remove_oldest.Goals as goal

pub oldest-requires : goal.oldest-requires
oldest-requires c = (store_facts _ _ c.requires).enough

pub returns-in-Err : goal.returns-in-Err
returns-in-Err c =
    let a = c.args in
    made_of c.none_gone.ensures (oldest_refused a.volume.now a.medium a.store a.dir.now a.spared c.oldest.ensures c.in-Err.is)

pub returns-in-Ok-None : goal.returns-in-Ok-None
returns-in-Ok-None c =
    let a = c.args in
    made_of c.none_gone-in-Ok-None.ensures (oldest_none a.volume.now a.medium a.store a.dir.now a.spared c.oldest.ensures (rw c.in-Ok-None.field-0-is at c.in-Ok-None.is))

pub returns-in-Ok-Some : goal.returns-in-Ok-Some
returns-in-Ok-Some c =
    let a = c.args in
    oldest_goes a.volume.now a.medium a.store a.dir.now a.spared c.oldest.ensures (rw c.in-Ok-Some.field-0-is at c.in-Ok-Some.is) c.take_away.ensures

pub take_away-requires : goal.take_away-requires
take_away-requires c =
    let a = c.args in (
      c.requires,
      (oldest_file a.volume.now a.medium a.store a.dir.now a.spared
          (sym c.oldest.ensures ∙ rw c.in-Ok-Some.field-0-is at c.in-Ok-Some.is)).file.below,
    )
