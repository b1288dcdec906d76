use native.Mathlib.Omega.{arith}
use Rattle.le.specs.Part.{zeros}
use Rattle.store.proofs.Opens.{rollover_none, rollover_set}
use Rattle.store.proofs.opening.rollover_of.Goals as goal

pub returns-then-not-rolls : goal.returns-then-not-rolls
unfolding zeros
returns-then-not-rolls c = rollover_none c.args.rolls c.args.dir.now c.if-not-rolls.true

pub put_bytes-requires : goal.put_bytes-requires
put_bytes-requires c = omega (arith, c.requires c.if-not-rolls.false)

pub returns : goal.returns
unfolding zeros
returns c =
    rollover_set c.args.rolls c.args.dir.now c.if-not-rolls.false
    c.put_bytes.ensures
