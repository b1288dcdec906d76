use Rattle.le.specs.Choice.{pick}
use Rattle.le.proofs.Turns.{told}
use Rattle.store.specs.Asked.{asked_of}
use Rattle.store.proofs.asked.Goals as goal

pub returns-then-not-handle_ok : goal.returns-then-not-handle_ok
unfolding asked_of pick
returns-then-not-handle_ok c = rw (← c.sectors.ensures, told c.handle_ok.ensures c.if-not-handle_ok.true)

pub returns-then-not-fine : goal.returns-then-not-fine
unfolding asked_of pick
returns-then-not-fine c =
    rw (
      ← c.sectors.ensures,
      told c.handle_ok.ensures c.if-not-handle_ok.false,
      c.if-not-fine.true,
    )

pub returns : goal.returns
unfolding asked_of pick
returns c =
    rw (
      ← c.sectors.ensures,
      told c.handle_ok.ensures c.if-not-handle_ok.false,
      c.if-not-fine.false,
    )
