-- What holds of each way that a decision goes holds of the decision. Assumes nothing.
use mathlib.Core.Path.{◌≡◌, refl}
use Prim.Native.Nat.{ℕ}
use Rattle.std.specs.Prelude.{Option, None, Some, Result, Ok, Err}
use Rattle.medium.specs.declared.Error.{Error}
use Rattle.directory.specs.declared.Found.{Found}
use Rattle.directory.specs.declared.Seen.{Seen}
use Rattle.directory.specs.Scan.{found_at, on_found, on_free, on_looked}

pub on_found_keeps : {A : Type 0} (P : A → Type 0) (x : Result Found Error) (f : Error → A) (g : ℕ → ℕ → A) → ((e : Error) → x ≡ Err e → P (f e))
    → ((slot id : ℕ) → x ≡ found_at slot id → P (g slot id)) → P (on_found x f g)
unfolding on_found
on_found_keeps P (Err e) f g p q = p e refl
on_found_keeps P (Ok x) f g p q = q x.slot x.id refl

pub on_looked_keeps : {A : Type 0} (P : A → Type 0) (x : Result Seen Error) (f : Error → A) (g : Seen → A) → ((e : Error) → P (f e))
    → ((s : Seen) → x ≡ Ok s → P (g s)) → P (on_looked x f g)
unfolding on_looked
on_looked_keeps P (Err e) f g p q = p e
on_looked_keeps P (Ok s) f g p q = q s refl

pub on_free_keeps : {A : Type 0} (P : A → Type 0) (o : Option ℕ) (a : A) (f : ℕ → A) → (o ≡ None → P a) → ((slot : ℕ) → o ≡ Some slot → P (f slot)) → P (on_free o a f)
unfolding on_free
on_free_keeps P None a f p q = p refl
on_free_keeps P (Some slot) a f p q = q slot refl
