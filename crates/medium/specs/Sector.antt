-- 01, "Volume and medium record". The volume is the list of its bytes. Assumes nothing.
use Rattle.std.specs.Prelude.{Err, Ok, Result}
use Rattle.medium.specs.declared.Error.{Error}
use Rattle.std.specs.Prelude.{ℕ, ◌-◌, ◌*◌, ◌/◌, ◌≤◌, List, eqb, length}
use Rattle.le.specs.Choice.{pick}
use Rattle.le.specs.Part.{part, over}
use Rattle.medium.specs.declared.Error.TheVariants.{Media}
use Rattle.medium.specs.declared.Medium.{Medium}
use Rattle.medium.specs.declared.Written.{Written}
use Rattle.medium.specs.Refusal.{on_done}

-- S, the count of whole sectors
abbrev pub sectors_of : List ℕ → ℕ
sectors_of vol = length vol / 512

-- the bytes of sector k, and the volume with other bytes there. Both stay shut: what is above uses the laws of proofs/Laws
unfoldable pub sector_at : List ℕ → ℕ → List ℕ
sector_at vol k = part (512 * k) 512 vol

unfoldable pub write_at : List ℕ → ℕ → List ℕ → List ℕ
write_at vol k bytes = over (512 * k) bytes vol

-- reading the unreadable sector is refused
unfoldable pub read_of : Medium → ℕ → Result Unit Error
read_of m k = pick (eqb k m.unreadable) (Err Media) (Ok tt)

-- every sector reads
abbrev pub Readable : List ℕ → Medium → Type 0
Readable vol m = sectors_of vol ≤ m.unreadable

-- a write takes one from writes left; at 0 it is refused
unfoldable pub spend_of : Medium → Written
spend_of m =
    pick (eqb m.left 0)
    (record { outcome = Err Media; medium = m })
    (record { outcome = Ok tt; medium = record { left = m.left - 1; unreadable = m.unreadable; entropy = m.entropy; token = m.token } })

-- a sector write: the volume after it, and the answer. Refused, it changes nothing
pub record WriteOut : Type 0 where
  pub vol : List ℕ
  pub ans : Written

unfoldable pub write_of : List ℕ → Medium → ℕ → List ℕ → WriteOut
write_of vol m k bytes = record { vol = on_done (spend_of m).outcome (write_at vol k bytes) (λ e. vol); ans = spend_of m }
