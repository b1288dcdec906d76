use mathlib.Core.Path.{◌≡◌}
use mathlib.Core.Bool.{◌&&◌}
use Prim.Native.Nat.{◌*◌}
use lib.Dec.{eqb}
use Rattle.freemap.specs.Map.{first_from}
use Rattle.freemap.proofs.none_after.Given as goal

-- so far, and from here on
abbrev pub invariant-loop-j : goal.invariant-loop-j
invariant-loop-j l = (l.none && eqb (first_from l.words (64 * l.j)) 2048) ≡ eqb (first_from l.words (64 * l.from)) 2048
