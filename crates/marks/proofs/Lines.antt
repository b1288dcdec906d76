-- The line of a point as it is put: the name, two fields, a line feed. Assumes nothing.
use Prim.Native.Nat.{ℕ, ◌+◌, ◌≤◌}
use mathlib.Core.Path.{◌≡◌}
use mathlib.Core.List.{List, [], ◌∷◌, ◌++◌}
use native.Mathlib.Omega.{arith}
use lib.ListN.{length}
use Rattle.le.specs.Part.{over}
use Rattle.decimal.specs.Decimal.{decimal_text, Put}
use Rattle.decimal.proofs.Puts.{put_then}
use Rattle.marks.specs.Line.{line_of}

pub line_put : (l p : List ℕ) (id n : ℕ) {m1 m2 m3 o : List ℕ} {a b : ℕ} → length l ≡ 39 → length p ≤ 16 → length (decimal_text id) ≤ 10
    → length (decimal_text n) ≤ 10
    → m1 ≡ over 0 p l → Put (length p) (9 ∷ decimal_text id) m1 m2 a → Put a (9 ∷ decimal_text n) m2 m3 b → o ≡ over b (10 ∷ []) m3
    → Put 0 (line_of p id n) l o (b + 1) × (b + 1 ≤ 39)
unfolding line_of
line_put l p id n size short short_id short_n e q s f =
    let x = put_then 0 p (9 ∷ decimal_text id) l (omega (arith, q.1)) (e, omega arith) q in
    let y = put_then 0 (p ++ (9 ∷ decimal_text id)) (9 ∷ decimal_text n) l (omega (arith, q.1, s.1)) x s in
    (put_then 0 (p ++ (9 ∷ decimal_text id) ++ (9 ∷ decimal_text n)) (10 ∷ []) l (omega (arith, q.1, s.1)) y (f, omega arith), omega (arith, q.1, s.1))
