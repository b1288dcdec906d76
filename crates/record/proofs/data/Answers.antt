use mathlib.Core.Path.{refl}
use Prim.Native.Nat.{◌+◌, ◌*◌, ◌^◌, ◌<◌}
use borrow.Author.Rules.{rules}
use Rattle.record.specs.Record.{data_at}
use Rattle.record.proofs.Laws.{data_fits}
use Rattle.record.proofs.data.Goals as goal

-- all is below the width
small : (c : goal.After-struct_known-1) → let a = c.args in 64 + a.chunk * a.store.head.chunk + a.index < 2 ^ 64
small c = data_fits _ _ _ (search rules) (search rules) (search rules)

pub returns : goal.returns
unfolding data_at
returns c = refl
