use native.Mathlib.Nat.{add-sub_cancel_left}
use Rattle.le.specs.Part.{part}
use Rattle.medium.specs.Sector.{sector_at}
use Rattle.record.proofs.is_blank_at.Goals as goal

pub returns : goal.returns
unfolding sector_at part
returns c = rw (← c.data.ensures) (simp add-sub_cancel_left at c.is_blank.ensures)
