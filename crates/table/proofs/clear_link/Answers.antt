use Rattle.table.proofs.Clears.{clear_owned, clear_kept}
use Rattle.table.proofs.clear_link.Goals as goal

pub returns-then-owner-slot : goal.returns-then-owner-slot
returns-then-owner-slot c =
    let a = c.args in
    clear_owned a.slot a.i a.sector.now (rw c.get_u16-owner.ensures at c.if-owner-slot.true) c.put_zeros.ensures

pub returns-else-owner-slot : goal.returns-else-owner-slot
returns-else-owner-slot c =
    let a = c.args in
    clear_kept a.slot a.i a.sector.now (rw c.get_u16-owner.ensures at c.if-owner-slot.false)
