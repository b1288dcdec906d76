-- The bytes before the first zero, as the code looks for it. Assumes nothing.
use Prim.Native.Nat.{ℕ, ◌+◌, ◌≤◌}
use mathlib.Core.Path.{◌≡◌, refl}
use mathlib.Core.Bool.{Bool, true, false, not, cond}
use mathlib.Core.List.{List}
use native.Mathlib.Omega.{arith}
use lib.Dec.{eqb}
use lib.ListN.{length}
use Rattle.std.specs.Prelude.{Option, unwrap_or}
use Rattle.std.specs.List.{position, position_or_len}
use Rattle.std.proofs.lemmas.Bool.Decides.{nat_tests}
use Rattle.std.proofs.lemmas.List.Recursion.{is_position_or_len}
use Rattle.std.proofs.lemmas.List.Sums.{prefix_len-le-length}
use Rattle.le.specs.Choice.{pick}
use Rattle.names.specs.Names.{text_len}

first_zero : (l : List ℕ) → text_len l ≡ position_or_len (λ b. eqb b 0) l
unfolding text_len pick
first_zero = is_position_or_len text_len (λ b. eqb b 0) refl (λ b bs. here bs (eqb b 0))
  where
    here : (bs : List ℕ) (t : Bool) → pick t 0 (1 + text_len bs) ≡ cond t 0 (1 + text_len bs)
    here bs true = refl
    here bs false = refl

pub zero_found : (l : List ℕ) {o : Option ℕ} → o ≡ position (λ b. eqb b 0) l → (unwrap_or o (length l) ≡ text_len l) × (unwrap_or o (length l) ≤ length l)
zero_found l e =
    let most = prefix_len-le-length (λ b. not (eqb b 0)) l in
    grind (arith, nat_tests, first_zero l)
