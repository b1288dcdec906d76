use Prim.Native.Nat.{◌≤◌, ◌<◌, ◌^◌}
use mathlib.Core.Path.{◌≡◌}
use mathlib.Core.List.{◌++◌}
use lib.ListN.{length, drop}
use Rattle.decimal.specs.Decimal.{digits_of, decimal_text}
use Rattle.decimal.proofs.put_digits.Given as goal

abbrev pub invariant-loop-left : goal.invariant-loop-left
invariant-loop-left l =
    (length l.digits ≡ 20) × (1 ≤ l.i) × (l.i ≤ 20) × (l.left < 10 ^ l.i) × (digits_of l.i l.left ++ drop l.i l.digits ≡ decimal_text l.n)

abbrev pub decreases-loop-left : goal.decreases-loop-left
decreases-loop-left l = l.i
