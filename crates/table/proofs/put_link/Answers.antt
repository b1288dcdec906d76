use Prim.Native.Nat.{◌+◌, ◌*◌, ◌%◌, ◌≤◌}
use native.Mathlib.Omega.{arith}
use lib.ListN.{length}
use Rattle.table.specs.Link.{owner_of}
use Rattle.table.proofs.Numbers.{link_put_lem}
use Rattle.table.proofs.put_link.Goals as goal

pub returns : goal.returns
unfolding owner_of
returns c =
    let a = c.args in
    let room : 4 * (a.chunk % 128) + 4 ≤ length a.sector.now =
    omega (arith, c.requires.0) in
    cc (link_put_lem a.link (4 * (a.chunk % 128)) a.sector.now room)
