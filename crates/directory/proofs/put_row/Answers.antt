use mathlib.Core.Path.{ap, ◌∙◌}
use Prim.Native.Nat.{◌+◌, ◌-◌, ◌*◌}
use native.Mathlib.Omega.{arith}
use lib.ListN.{length}
use Rattle.le.specs.Field.{put_le}
use Rattle.le.specs.Part.{over, zeros}
use Rattle.directory.proofs.RowParts.{row_put}
use Rattle.directory.proofs.put_row.Goals as goal

pub returns : goal.returns
returns c = let a = c.args in
    let at = 48 * a.count in
    let n = length a.name.now in
    c.put_u32-2.ensures
    ∙ ap (put_le 4 (at + 44) a.chunks) (c.put_u32.ensures
    ∙ ap (put_le 4 (at + 40) a.id) (c.put_zeros.ensures
    ∙ ap (over (at + n) (zeros (40 - n))) c.put_bytes.ensures))
    ∙ row_put a.name.now a.id a.chunks c.requires.2 at a.rows.now (omega arith)
