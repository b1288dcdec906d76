-- One turn of a loop that goes down a list, and what a call's answer says of the definition that it equals. Assumes nothing.
use Prim.Native.Nat.{ℕ, ◌+◌, ◌<◌, ◌≤◌}
use mathlib.Core.Path.{◌≡◌, sym, ◌∙◌}
use mathlib.Core.Logic.{◌⊎◌, ⊎_elim}
use mathlib.Core.List.{List, [], ◌∷◌}
use native.Mathlib.Numerals.{add-one}
use lib.ListN.{length, get_or, drop, drop_of_length-le}
use lib.Seq.{drop-cons}

-- what is left at i is the element at i and what is left at i + 1
pub drop_one : (l : List ℕ) (i : ℕ) → i < length l → drop i l ≡ get_or l i 0 ∷ drop (i + 1) l
drop_one l i h = rw add-one (drop-cons l i 0 h)

pub drop_end : (l : List ℕ) (i : ℕ) → length l ≤ i → drop i l ≡ []
drop_end l i h = drop_of_length-le l h

-- the two ways into a place where arms meet, with the way first, so that each arm's facts have their types
pub cases : {A B C : Type 0} → A ⊎ B → (A → C) → (B → C) → C
cases d f g = ⊎_elim f g d

pub told : {A : Type 0} {x y z : A} → x ≡ y → x ≡ z → y ≡ z
told p q = sym p ∙ q
