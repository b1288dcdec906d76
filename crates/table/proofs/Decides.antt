-- What holds of each way that a decision goes holds of the decision. Assumes nothing.
use Rattle.std.specs.Prelude.{Option, Some, None, Result, Ok, Err}
use mathlib.Core.Path.{◌≡◌, refl}
use Prim.Native.Nat.{ℕ}
use Rattle.medium.specs.declared.Error.{Error}
use Rattle.table.specs.declared.Link.{Link}
use Rattle.table.specs.declared.Place.{Place}
use Rattle.table.specs.declared.ChainParts.{ChainParts}
use Rattle.table.specs.Table.{on_place, on_chain, on_pick, place_at}

pub on_place_keeps : {A : Type 0} (P : A → Type 0) (x : Result Place Error) (f : Error → A) (g : ℕ → Link → A) → ((e : Error) → x ≡ Err e → P (f e))
    → ((c : ℕ) (l : Link) → x ≡ Ok (place_at c l) → P (g c l)) → P (on_place x f g)
unfolding on_place
on_place_keeps P (Err e) f g p q = p e refl
on_place_keeps P (Ok x) f g p q = q x.chunk x.link refl

pub on_chain_keeps : {A : Type 0} (P : A → Type 0) (x : Result ChainParts Error) (f : Error → A) (g : ChainParts → A) → ((e : Error) → P (f e))
    → ((parts : ChainParts) → x ≡ Ok parts → P (g parts)) → P (on_chain x f g)
unfolding on_chain
on_chain_keeps P (Err e) f g p q = p e
on_chain_keeps P (Ok parts) f g p q = q parts refl

pub on_pick_keeps : {A : Type 0} (P : A → Type 0) (x : Result (Option ℕ) Error) (f : Error → A) (a : A) (g : ℕ → A) → ((e : Error) → P (f e)) → P a
    → ((c : ℕ) → x ≡ Ok (Some c) → P (g c)) → P (on_pick x f a g)
unfolding on_pick
on_pick_keeps P (Err e) f a g p n q = p e
on_pick_keeps P (Ok None) f a g p n q = n
on_pick_keeps P (Ok (Some c)) f a g p n q = q c refl
