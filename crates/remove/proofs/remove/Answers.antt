use mathlib.Core.Path.{refl}
use lib.Dec.{lit≤}
use Rattle.plan.specs.Copy.{is_format}
use Rattle.remove.proofs.Ways.{remove_refused, remove_done}
use Rattle.remove.proofs.remove.Goals as goal

pub commit-c-requires : goal.commit-c-requires
unfolding is_format
commit-c-requires c = (c.requires.0, c.requires.1, refl, lit≤ tt)

pub returns-in-Err : goal.returns-in-Err
returns-in-Err c =
    let a = c.args in
    remove_refused a.volume.now a.medium a.store a.slot a.id c.commit-c.ensures c.in-Err.is

pub returns : goal.returns
returns c =
    let a = c.args in
    remove_done a.volume.now a.medium a.store a.slot a.id c.commit-c.ensures c.in_default.is
    c.closed_for-after.ensures
