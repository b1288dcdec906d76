use mathlib.Core.Path.{◌≡◌}
use Prim.Native.Nat.{◌≤◌}
use lib.ListN.{drop}
use Rattle.decimal.specs.Decimal.{decimal_from, decimal_of}
use Rattle.decimal.proofs.read.Given as goal

abbrev pub invariant-loop-b : goal.invariant-loop-b
invariant-loop-b l = (l.value ≤ l.max) × (decimal_from l.max l.value (drop l.b-index l.text) ≡ decimal_of l.max l.text)
