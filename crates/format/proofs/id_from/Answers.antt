use mathlib.Core.Path.{refl}
use native.Mathlib.Omega.{arith}
use Rattle.format.proofs.Ids.{id_good, id_bad, id_last}
use Rattle.format.proofs.id_from.Goals as goal

pub loop-tried-init : goal.loop-tried-init
loop-tried-init c = (omega arith, refl)

pub returns-then-not-bad : goal.returns-then-not-bad
returns-then-not-bad c =
    let l = c.loop-tried in
    id_good c.args.c l.id l.tried c.has_id.ensures (omega arith) l.invariant.1 (rw c.if-not-bad.true refl)

pub loop-tried-preserved : goal.loop-tried-preserved
loop-tried-preserved c =
    let l = c.loop-tried in (
      omega arith,
      id_bad c.args.c l.id l.tried c.has_id.ensures (omega arith) l.invariant.1
          (rw c.if-not-bad.false refl) c.mix-id.ensures,
    )

pub returns : goal.returns
returns c = let l = c.loop-tried in id_last c.args.c l.id l.tried c.spare.ensures (omega arith) l.invariant.1
