use Prim.Native.Nat.{◌≤◌}
use mathlib.Core.Path.{◌≡◌}
use lib.ListN.{length, take, drop}
use Rattle.lines.specs.Input.{gather_of}
use Rattle.lines.proofs.input.gather.Given as goal

abbrev pub invariant-loop-i : goal.invariant-loop-i
invariant-loop-i l =
    (l.from ≤ l.i) × (l.i ≤ length l.bytes) × (l.i-end ≡ length l.bytes) × (l.fill ≤ 601) × (length l.line ≡ length l.initial.line)
    × (gather_of (take l.fill l.line) (drop l.i l.bytes) ≡ gather_of (take l.fill-2 l.initial.line) (drop l.from l.bytes))
