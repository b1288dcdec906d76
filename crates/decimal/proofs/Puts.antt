-- Texts put one after the other. Assumes nothing.
use Prim.Native.Nat.{ℕ, ◌+◌, ◌-◌, ◌≤◌}
use mathlib.Core.Path.{◌≡◌, ◌∙◌}
use mathlib.Core.List.{List, [], ◌∷◌, ◌++◌}
use native.Mathlib.Omega.{arith}
use lib.ListN.{length, take, drop, length-append, length-drop}
use lib.Seq.{take_all}
use Rattle.le.specs.Part.{over}
use Rattle.le.proofs.Parts.{length_over, over_over}
use Rattle.decimal.specs.Decimal.{decimal_text, Put}

-- one text after another is the two in a row
pub put_then : (at : ℕ) (a b l : List ℕ) {m k : List ℕ} {e f : ℕ} → f ≤ length l → Put at a l m e → Put e b m k f → Put at (a ++ b) l k f
put_then at a b l h p q =
    let s : length (a ++ b) ≡ length a + length b = length-append a b in
    (rw (q.0, p.1, p.0) (over_over at a b l (omega (arith, p.1, q.1))), omega (arith, p.1, q.1, s))

-- a text leaves the buffer's length
pub put_length : (at : ℕ) (a l : List ℕ) {m : List ℕ} {e : ℕ} → e ≤ length l → Put at a l m e → length m ≡ length l
put_length at a l h p = rw p.0 (length_over at a l (omega (arith, p.1)))

-- the digits at the end of a buffer of 20, lent as `&digits[from..]`
module _ (digits : List ℕ) (from n : ℕ) (size : length digits ≡ 20) (told : drop from digits ≡ decimal_text n) where
  pub digits_lent : take (20 - from) (drop from digits) ≡ decimal_text n
  digits_lent = take_all (20 - from) (drop from digits) (rw length-drop (omega arith)) ∙ told

  pub digits_long : length (decimal_text n) ≡ 20 - from
  digits_long = rw (← told, length-drop) (omega arith)

-- a tab and the digits
pub field_put : (at n : ℕ) (l : List ℕ) {m k : List ℕ} {r : ℕ} → at + length (9 ∷ decimal_text n) ≤ length l → m ≡ over at (9 ∷ []) l
    → Put (at + 1) (decimal_text n) m k r → Put at (9 ∷ decimal_text n) l k r
field_put at n l h p q = put_then at (9 ∷ []) (decimal_text n) l (omega (arith, q.1)) (p, omega arith) q
