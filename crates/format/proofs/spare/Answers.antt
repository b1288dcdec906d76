use Rattle.le.specs.Choice.{pick}
use Rattle.format.specs.Format.{spare_of}
use Rattle.format.proofs.spare.Goals as goal

pub returns-then-not-has_id : goal.returns-then-not-has_id
unfolding spare_of pick
returns-then-not-has_id c = rw (← c.has_id.ensures, c.if-not-has_id.true)

pub returns-then-not-has_id-2 : goal.returns-then-not-has_id-2
unfolding spare_of pick
returns-then-not-has_id-2 c =
    rw (
      ← c.has_id.ensures,
      c.if-not-has_id.false,
      ← c.has_id-2.ensures,
      c.if-not-has_id-2.true,
    )

pub returns : goal.returns
unfolding spare_of pick
returns c =
    rw (
      ← c.has_id.ensures,
      c.if-not-has_id.false,
      ← c.has_id-2.ensures,
      c.if-not-has_id-2.false,
    )
