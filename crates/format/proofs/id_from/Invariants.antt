use Prim.Native.Nat.{◌-◌, ◌≤◌}
use mathlib.Core.Path.{◌≡◌}
use Rattle.format.specs.Format.{id_from}
use Rattle.format.proofs.id_from.Given as goal

abbrev pub invariant-loop-tried : goal.invariant-loop-tried
invariant-loop-tried l = (l.tried ≤ 4) × (id_from l.c (4 - l.tried) l.id ≡ id_from l.c 4 l.start)
