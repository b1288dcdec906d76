-- The two copies: while one is written the other is as it was. Assumes nothing.
use Rattle.std.specs.Prelude.{Err, Ok, Result}
use mathlib.Core.Path.{◌≡◌, sym, ◌∙◌}
use mathlib.Core.List.{List}
use mathlib.Core.Logic.{◌⊎◌, inl, inr}
use Prim.Native.Nat.{ℕ, zero, suc, ◌+◌, ◌<◌, ◌≤◌}
use native.Mathlib.Nat.{add-zero, add_assoc}
use native.Mathlib.Omega.{arith}
use Rattle.le.specs.Choice.{pick}
use Rattle.medium.specs.declared.Error.{Error}
use Rattle.medium.specs.Sector.{sector_at}
use Rattle.medium.proofs.Laws.{not_done}
use Rattle.medium.specs.Frame.{Kept}
use Rattle.handles.specs.Handles.{base_of}

-- an outcome is not both
pub clash : {A : Type 0} {o : Result Unit Error} {e : Error} → o ≡ Err e → o ≡ Ok tt → A
clash p q = not_done (sym p ∙ q)

-- the header and the body of one copy lie outside the other
outside : (a b i : ℕ) → a + b ≡ 1 → i < 25 → (base_of a + i < base_of b) ⊎ (base_of b + 25 ≤ base_of a + i)
unfolding base_of pick
outside zero b i e h = let f : b ≡ 1 = omega arith in rw f (inl (omega arith))
outside (suc zero) b i e h = let f : b ≡ 0 = omega arith in rw f (inr (omega arith))
outside (suc (suc a)) b i e h = absurd (let f : ⊥ = omega arith in f)

-- so while one is written the other is as it was
module _ {vol v : List ℕ} (a b : ℕ) (two : a + b ≡ 1) (kept : Kept (base_of b) 25 vol v) where
  pub header_beside : sector_at v (base_of a) ≡ sector_at vol (base_of a)
  header_beside = kept.same (base_of a) (rw add-zero at (outside a b 0 two (omega arith)))

  pub body_beside : (k : ℕ) → k < 24 → sector_at v (base_of a + 1 + k) ≡ sector_at vol (base_of a + 1 + k)
  body_beside k h = kept.same (base_of a + 1 + k) (rw add_assoc (outside a b (1 + k) two (omega arith)))
