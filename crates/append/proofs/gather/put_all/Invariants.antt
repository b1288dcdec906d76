use Prim.Native.Nat.{◌-◌}
use lib.ListN.{length}
use Rattle.append.proofs.Runs.{Going}
use Rattle.append.proofs.gather.put_all.Given as goal

abbrev pub invariant-loop-i : goal.invariant-loop-i
invariant-loop-i l = Going l.bytes l.initial.volume l.initial.m l.initial.s l.initial.a l.volume l.m l.s l.a l.i

abbrev pub decreases-loop-i : goal.decreases-loop-i
decreases-loop-i l = length l.bytes - l.i
