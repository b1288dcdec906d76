-- 01, "Commit": "A refusal keeps the writes made so far, and no others", and "Volume and medium record": "Only writes left and the token ever
-- change". What a run of writes leaves alone. Assumes nothing.
use Rattle.std.specs.Prelude.{ℕ, ◌+◌, ◌<◌, ◌≤◌, ◌≡◌, List, ◌⊎◌, length}
use Rattle.medium.specs.declared.Medium.{Medium}
use Rattle.medium.specs.Sector.{sector_at}

-- v is vol but for the n sectors from lo on
pub record Kept (lo n : ℕ) (vol v : List ℕ) : Type 0 where
  pub size : length v ≡ length vol
  pub same : (j : ℕ) → (j < lo) ⊎ (lo + n ≤ j) → sector_at v j ≡ sector_at vol j

-- u is m after some writes: no more of them are left, and all else is as it was
pub record Spends (m u : Medium) : Type 0 where
  pub left : u.left ≤ m.left
  pub unreadable : u.unreadable ≡ m.unreadable
  pub entropy : u.entropy ≡ m.entropy
  pub token : u.token ≡ m.token
