use mathlib.Core.Path.{◌≡◌}
use Prim.Native.Nat.{◌*◌}
use Rattle.le.specs.Tally.{tally}
use Rattle.freemap.specs.Map.{marks}
use Rattle.freemap.proofs.count.Given as goal

abbrev pub invariant-loop-w : goal.invariant-loop-w
invariant-loop-w l = l.n ≡ tally (marks l.w-items) (64 * l.w-index)
