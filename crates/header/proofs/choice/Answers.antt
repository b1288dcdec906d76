use Rattle.le.specs.Choice.{pick}
use Rattle.header.specs.Copies.{choice_of}
use Rattle.header.proofs.choice.Goals as goal

pub returns-then-takes_b : goal.returns-then-takes_b
unfolding choice_of pick
returns-then-takes_b c = rw (← c.takes_b.ensures, c.if-takes_b.true, ← c.is_ours-a.ensures) c.taken.ensures

pub returns-then-a : goal.returns-then-a
unfolding choice_of pick
returns-then-a c =
    rw (
      ← c.takes_b.ensures,
      c.if-takes_b.false,
      ← c.is_ours-a.ensures,
      c.if-a.true,
      ← c.is_ours.ensures,
    ) c.taken-then-a.ensures

pub returns-then-is_damaged : goal.returns-then-is_damaged
unfolding choice_of pick
returns-then-is_damaged c =
    rw (
      ← c.takes_b.ensures,
      c.if-takes_b.false,
      ← c.is_ours-a.ensures,
      c.if-a.false,
      ← c.is_damaged.ensures,
      ← c.is_damaged-2.ensures,
      c.if-is_damaged.true,
    ) c.no_current.ensures

pub returns : goal.returns
unfolding choice_of pick
returns c =
    rw (
      ← c.takes_b.ensures,
      c.if-takes_b.false,
      ← c.is_ours-a.ensures,
      c.if-a.false,
      ← c.is_damaged.ensures,
      ← c.is_damaged-2.ensures,
      c.if-is_damaged.false,
    ) c.no_current-2.ensures
