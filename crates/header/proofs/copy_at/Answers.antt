use native.Mathlib.Nat.{add-sub_cancel_left}
use Rattle.le.specs.Part.{part}
use Rattle.medium.specs.Sector.{sector_at}
use Rattle.header.specs.Copies.{copy_of}
use Rattle.header.proofs.copy_at.Goals as goal

pub returns : goal.returns
unfolding copy_of sector_at part
returns c = rw (← c.sectors.ensures) (simp add-sub_cancel_left at c.decode.ensures)
