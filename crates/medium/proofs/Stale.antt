-- Refusals other than 11: of a sector read or written, 11 is none. Assumes nothing.
use Rattle.std.specs.Prelude.{Err, Ok, Result}
use mathlib.Core.Path.{◌≡◌, refl, subst}
use mathlib.Core.Bool.{false}
use mathlib.Core.List.{List}
use Prim.Native.Nat.{ℕ}
use native.Mathlib.Omega.{arith}
use borrow.Author.Tests.{eqb-false}
use lib.Dec.{eqb}
use Rattle.le.proofs.Choices.{pick_keeps}
use Rattle.medium.specs.declared.Error.{Error}
use Rattle.medium.specs.declared.Medium.{Medium}
use Rattle.medium.specs.declared.Written.{Written}
use Rattle.medium.specs.Refusal.{number_of, refused, outcome_of}
use Rattle.medium.specs.Sector.{read_of, spend_of, write_of}

-- an outcome that is not 11
abbrev pub NotStale : Result Unit Error → Type 0
NotStale (Ok tt) = Unit
NotStale (Err e) = eqb (number_of e) 11 ≡ false

pub no_stale : {o : Result Unit Error} {e : Error} → NotStale o → o ≡ Err e → NotStale (Err e)
no_stale n q = subst NotStale q n

-- as 01 has it
pub told_not_stale : (o : Result Unit Error) → NotStale o → outcome_of o ≡ refused 11 → ⊥
told_not_stale (Ok tt) n q = let z : ◌≡◌ {A = ℕ} 0 1 = cc in omega arith
told_not_stale (Err e) n q = let z : number_of e ≡ 11 = cc in eqb-false (number_of e) 11 n z

pub read_not_stale : (m : Medium) (k : ℕ) → NotStale (read_of m k)
unfolding read_of
read_not_stale m k = pick_keeps NotStale (eqb k m.unreadable) _ _ refl tt

pub write_not_stale : (vol : List ℕ) (m : Medium) (k : ℕ) (bytes : List ℕ) → NotStale (write_of vol m k bytes).ans.outcome
unfolding write_of spend_of
write_not_stale vol m k bytes = pick_keeps (λ (w : Written). NotStale w.outcome) (eqb m.left 0) _ _ refl tt
