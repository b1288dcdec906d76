-- 02, S-5, of the two calls that open a file to append: what 16 leaves, and that all else is 01's call. The first three cases are all there are; the edges
-- behind them speak of a rollover's directory. One statement has them; proofs/Dots proves it. Assumes nothing.
use Rattle.std.specs.Prelude.{ℕ, ◌≡◌, Bool, true, false, List, [], ◌∷◌}
use Rattle.names.specs.Names.{dir_ok, dotted}
use Rattle.medium.specs.declared.Medium.{Medium}
use Rattle.medium.specs.Refusal.{refused}
use Rattle.medium.specs.Sector.{sectors_of}
use Rattle.handles.specs.declared.Store.{Store}
use Rattle.handles.specs.Handles.{store_ok}
use Rattle.append.specs.Appender.{no_appender}
use Rattle.append.specs.Calls.{AppCall}
use Rattle.store.specs.Opening.{open_fine, create_earlier, open_earlier, create_call, open_call}

-- refused with 16: the volume and the handles as given, an appender that no call accepts, and no step
pub record Refused16 (vol : List ℕ) (m : Medium) (st : Store) (c : AppCall) : Type 0 where
  pub answer : c.call.answer ≡ refused 16
  pub volume : c.vol ≡ vol
  pub medium : c.call.medium ≡ m
  pub store : c.call.store ≡ st
  pub appender : c.call.appender ≡ no_appender
  pub steps : c.steps ≡ []

abbrev pub BothRefused : List ℕ → Medium → Store → List ℕ → Bool → List ℕ → Type 0
BothRefused vol m st name rolls dir =
    Refused16 vol m st (create_call vol m st name rolls dir) × Refused16 vol m st (open_call vol m st name rolls dir)

-- both are as they were
abbrev pub AsEarlier : List ℕ → Medium → Store → List ℕ → Bool → List ℕ → Type 0
AsEarlier vol m st name rolls dir =
    (create_call vol m st name rolls dir ≡ create_earlier vol m st name rolls dir) × (open_call vol m st name rolls dir ≡ open_earlier vol m st name rolls dir)

pub record Dots : Type 0 where
  -- the input passes 3 and 1, and the name is a dot name. It is so for every medium record, whatever sector that does not read
  pub dots : (vol : List ℕ) (m : Medium) (st : Store) (name : List ℕ) (rolls : Bool) (dir : List ℕ)
      → store_ok st (sectors_of vol) ≡ true → open_fine name rolls dir ≡ true → dotted name ≡ true → BothRefused vol m st name rolls dir
  -- it is none
  pub plain : (vol : List ℕ) (m : Medium) (st : Store) (name : List ℕ) (rolls : Bool) (dir : List ℕ) → dotted name ≡ false → AsEarlier vol m st name rolls dir
  -- the input fails 3 or 1
  pub first : (vol : List ℕ) (m : Medium) (st : Store) (name : List ℕ) (rolls : Bool) (dir : List ℕ)
      → (store_ok st (sectors_of vol) ≡ true → open_fine name rolls dir ≡ true → ⊥) → AsEarlier vol m st name rolls dir
  -- `.a` with a directory that breaks its rule: 1 where it is set, 16 where it is not
  pub bad_directory : (vol : List ℕ) (m : Medium) (st : Store) (dir : List ℕ) → store_ok st (sectors_of vol) ≡ true → dir_ok dir ≡ false
      → ((create_call vol m st (46 ∷ 97 ∷ []) true dir).call.answer ≡ refused 1) × ((open_call vol m st (46 ∷ 97 ∷ []) true dir).call.answer ≡ refused 1)
  pub unset_directory : (vol : List ℕ) (m : Medium) (st : Store) (dir : List ℕ) → store_ok st (sectors_of vol) ≡ true
      → BothRefused vol m st (46 ∷ 97 ∷ []) false dir
  -- `a.b` with the directory `.d/`: as it was
  pub dot_directory : (vol : List ℕ) (m : Medium) (st : Store) → AsEarlier vol m st (97 ∷ 46 ∷ 98 ∷ []) true (46 ∷ 100 ∷ 47 ∷ [])
