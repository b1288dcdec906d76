-- Between the calls every body sector reads and has its checksum, so the walks meet no refusal of the medium or of the sums. Assumes nothing.
use mathlib.Core.List.{List}
use Prim.Native.Nat.{ℕ}
use Rattle.medium.specs.declared.Medium.{Medium}
use Rattle.medium.specs.Sector.{Readable}
use Rattle.handles.specs.declared.Store.{Store}
use Rattle.safe.specs.Inv.{Inv}
use Rattle.safe.proofs.Invs.{inv_check}
use Rattle.folds.specs.Checked.{Checked}

pub inv_checked : {vol : List ℕ} (m : Medium) {st : Store} → Inv vol st → Readable vol m → Checked vol m st
inv_checked {vol} m {st} inv r k h = inv_check vol m st inv r k h
