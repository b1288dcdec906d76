-- 01, "Commit": the checksum that the other header lists decides, and not the bytes of its copy. The decision for a body sector reads the store's own
-- sector and no byte of the copy that is written, and of the medium record which sector is unreadable. Assumes nothing.
use mathlib.Core.Path.{◌≡◌}
use mathlib.Core.List.{List}
use Prim.Native.Nat.{ℕ}
use Rattle.medium.specs.declared.Medium.{Medium}
use Rattle.medium.specs.Sector.{sector_at, read_of}
use Rattle.handles.specs.Body.{body_at, check_of}
use Rattle.plan.specs.Copy.{Plan, due_bytes, move_of}

module _ (p : Plan) (k : ℕ) (vol v : List ℕ) (same : sector_at v (body_at p.store k) ≡ sector_at vol (body_at p.store k)) where
  due_alike : due_bytes p v k ≡ due_bytes p vol k
  unfolding due_bytes
  due_alike = rw same

  module _ (m u : Medium) (reads : u.unreadable ≡ m.unreadable) where
    checked_alike : check_of v u p.store k ≡ check_of vol m p.store k
    unfolding check_of read_of
    checked_alike = rw (same, reads)

    pub move_decides : move_of p v u k ≡ move_of p vol m k
    unfolding move_of
    move_decides = rw (checked_alike, due_alike)
