-- 02, S-5: the edges of dot names, made of the definitions. One statement has them all; proofs/Edges proves it. Assumes nothing.
use Rattle.std.specs.Prelude.{ℕ, ◌≡◌, true, false, List, [], ◌∷◌, replicate}
use Rattle.names.specs.Names.{name_ok, dir_ok, dotted}

-- a name as entries have it, and retired
abbrev Retired : List ℕ → Type 0
Retired l = (name_ok l ≡ true) × (dotted l ≡ true)

-- and not retired
abbrev Plain : List ℕ → Type 0
Plain l = (name_ok l ≡ true) × (dotted l ≡ false)

pub record Edges : Type 0 where
  -- `.a`, `t/.b`, `.t/c`, `a/b/.c`
  pub first : Retired (46 ∷ 97 ∷ [])
  pub second : Retired (116 ∷ 47 ∷ 46 ∷ 98 ∷ [])
  pub before_slash : Retired (46 ∷ 116 ∷ 47 ∷ 99 ∷ [])
  pub third : Retired (97 ∷ 47 ∷ 98 ∷ 47 ∷ 46 ∷ 99 ∷ [])
  -- `.`, `..`, `a/../b`
  pub dot : Retired (46 ∷ [])
  pub two : Retired (46 ∷ 46 ∷ [])
  pub between : Retired (97 ∷ 47 ∷ 46 ∷ 46 ∷ 47 ∷ 98 ∷ [])
  -- `a.b`, `a./b`, `a/b.`, `-.`, `_.x`
  pub within : Plain (97 ∷ 46 ∷ 98 ∷ [])
  pub ends : Plain (97 ∷ 46 ∷ 47 ∷ 98 ∷ [])
  pub last : Plain (97 ∷ 47 ∷ 98 ∷ 46 ∷ [])
  pub hyphen : Plain (45 ∷ 46 ∷ [])
  pub underscore : Plain (95 ∷ 46 ∷ 120 ∷ [])
  -- 40 dots are a name; with 41, with `/.a` and with `a//.b` 1 comes first
  pub forty : Retired (replicate 40 46)
  pub forty_one : name_ok (replicate 41 46) ≡ false
  pub slash : name_ok (47 ∷ 46 ∷ 97 ∷ []) ≡ false
  pub double : name_ok (97 ∷ 47 ∷ 47 ∷ 46 ∷ 98 ∷ []) ≡ false
  -- the directory `.d/`
  pub directory : dir_ok (46 ∷ 100 ∷ 47 ∷ []) ≡ true
