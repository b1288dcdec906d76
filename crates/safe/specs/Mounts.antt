-- 01, "Header": which copy mount takes, and whether the bodies are what the headers list, as properties of the volume. Assumes nothing.
use Rattle.std.specs.Prelude.{ℕ, ◌+◌, ◌-◌, ◌<◌, ◌≤◌, ◌≡◌, true, false, List, get_or}
use Rattle.checksum.specs.Crc.{crc32_of}
use Rattle.medium.specs.Sector.{sectors_of, sector_at}
use Rattle.handles.specs.declared.Header.{Header}
use Rattle.handles.specs.Handles.{body_of, base_of, sane_of}
use Rattle.header.specs.Header.{ours, InRange}
use Rattle.header.specs.Copies.{is_foreign, copy_of, same_store}
use Rattle.plan.specs.Copy.{Plan}

-- the copy stands on the volume with header h, and mount takes it: the other copy is not foreign and, where it is valid, of no larger generation;
-- of a smaller one where it is A, since A is taken at equal generations
pub record Stands (vol : List ℕ) (copy : ℕ) (h : Header) : Type 0 where
  pub enough : 64 ≤ sectors_of vol
  pub number : copy < 2
  pub found : copy_of vol (base_of copy) ≡ ours h
  pub known : is_foreign (copy_of vol (base_of (1 - copy))).kind ≡ false
  pub older : (g : Header) → copy_of vol (base_of (1 - copy)) ≡ ours g → g.generation + copy ≤ h.generation

-- the header of a plan is one that mount takes once it is written
pub record Newest (p : Plan) (vol : List ℕ) : Type 0 where
  pub number : p.copy < 2
  pub sane : sane_of p.head (sectors_of vol) ≡ true
  pub range : InRange p.head
  pub known : is_foreign (copy_of vol (base_of (1 - p.copy))).kind ≡ false
  pub older : (g : Header) → copy_of vol (base_of (1 - p.copy)) ≡ ours g → g.generation + p.copy ≤ p.head.generation

-- ---- with the bodies

-- the body of a copy has the checksums that a header lists
abbrev pub Lists : List ℕ → ℕ → Header → Type 0
Lists vol copy h = (k : ℕ) → k < body_of h.chunks → crc32_of (sector_at vol (base_of copy + 1 + k)) ≡ get_or h.crcs k 0

-- what holds of a volume between the calls: a copy stands, its header lists its body, and so does the other's where it is valid and of the same store
pub record Sound (vol : List ℕ) (copy : ℕ) (h : Header) : Type 0 where
  pub stands : Stands vol copy h
  pub own : Lists vol copy h
  pub other : (g : Header) → copy_of vol (base_of (1 - copy)) ≡ ours g → same_store h g ≡ true → Lists vol (1 - copy) g
