use Prim.Native.Nat.{◌-◌, ◌≤◌}
use mathlib.Core.Path.{◌≡◌}
use lib.ListN.{length}
use Rattle.handles.specs.Handles.{body_of}
use Rattle.format.proofs.Writes.{zeroed_from}
use Rattle.format.proofs.zero_body.Given as goal

abbrev pub invariant-loop-k : goal.invariant-loop-k
invariant-loop-k l =
    (l.k ≤ l.body) × (length l.volume ≡ length l.initial.volume) × (zeroed_from l.copy l.head (l.body - l.k) l.k l.volume l.m ≡ zeroed_from l.copy l.head (body_of l.head.chunks) 0 l.initial.volume l.initial.m)
