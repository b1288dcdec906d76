use Prim.Native.Nat.{◌-◌, ◌≤◌}
use Rattle.checksum.proofs.Moved.{Moving}
use Rattle.checksum.proofs.running.moved.Given as goal

abbrev pub invariant-loop-n : goal.invariant-loop-n
invariant-loop-n l = (l.n ≤ 32) × Moving l.x (32 - l.n) l.sum l.k
