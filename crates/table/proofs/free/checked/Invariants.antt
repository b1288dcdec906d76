use Rattle.std.specs.Prelude.{Ok}
use Prim.Native.Nat.{◌+◌}
use Rattle.handles.specs.Body.{check_of}
use Rattle.handles.specs.Handles.{table_of}
use Rattle.walk.proofs.Laws.{At}
use Rattle.table.specs.Free.{on_check, checked_of}
use Rattle.table.proofs.free.checked.Given as goal

abbrev pub invariant-loop-t : goal.invariant-loop-t
invariant-loop-t l =
    At (λ i s. on_check) (λ i. check_of l.volume l.medium l.store (8 + i)) (λ s. Ok tt) (table_of l.store.head.chunks) (checked_of l.volume l.medium l.store) l.t tt
