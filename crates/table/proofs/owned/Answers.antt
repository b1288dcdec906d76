use mathlib.Core.Path.{ap}
use Prim.Native.Nat.{◌+◌, ◌*◌}
use Rattle.table.proofs.Numbers.{link_owned}
use Rattle.table.proofs.owned.Goals as goal

pub returns : goal.returns
returns c =
    let args = c.args in
    link_owned args.volume.now args.store args.chunk args.slot
    (ap (λ x. 512 * (x + 9) + 4 * args.chunk) c.base.ensures.0) c.get_u16-owner.ensures
