use mathlib.Core.Path.{◌≡◌}
use Prim.Native.Nat.{◌-◌, ◌≤◌}
use lib.ListN.{length}
use Rattle.handles.specs.Handles.{body_of}
use Rattle.plan.specs.Edit.{head_after}
use Rattle.plan.specs.Copy.{body_from}
use Rattle.commit.specs.Commit.{commit_plan}
use Rattle.commit.proofs.write_body.Given as goal

abbrev pub invariant-loop-k : goal.invariant-loop-k
invariant-loop-k l =
    (l.k ≤ l.n) × (length l.volume ≡ length l.initial.volume) × (body_from (commit_plan l.found l.edit l.name l.store) (l.n - l.k) l.k l.volume l.m l.head ≡ body_from
    (commit_plan l.found l.edit l.name l.store) (body_of l.store.head.chunks) 0 l.initial.volume l.initial.m (head_after l.edit l.store.head))

abbrev pub decreases-loop-k : goal.decreases-loop-k
decreases-loop-k l = l.n - l.k
