use mathlib.Core.Path.{◌≡◌}
use Prim.Native.Nat.{◌*◌}
use Rattle.freemap.specs.Map.{first_from}
use Rattle.freemap.proofs.first_word.Given as goal

abbrev pub invariant-loop-j : goal.invariant-loop-j
invariant-loop-j l = first_from l.words (64 * l.j) ≡ first_from l.words (64 * l.from)
