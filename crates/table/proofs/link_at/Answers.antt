use Rattle.std.proofs.Common.{rules}
use mathlib.Core.Path.{ap}
use Prim.Native.Nat.{◌+◌, ◌*◌}
use Rattle.table.proofs.Numbers.{link_refused, link_read}
use Rattle.table.proofs.link_at.Goals as goal

pub returns-in_err-due : goal.returns-in_err-due
returns-in_err-due c =
    let args = c.args in
    search (rules, link_refused args.volume.now args.medium args.store args.chunk c.due.ensures c.in_err-due.was)

pub returns : goal.returns
returns c =
    let args = c.args in
    link_read args.volume.now args.medium args.store args.chunk c.due.ensures c.in_ok-due.was
    (ap (λ x. 512 * (x + 9) + 4 * args.chunk) c.base.ensures.0) c.get_u16-owner.ensures c.get_u16-place.ensures
    c.link_of.ensures
