use Rattle.std.proofs.Common.{arith}
use borrow.Author.Tests.{eq-eqb, ne_eqb}
use Rattle.le.specs.Choice.{pick}
use Rattle.bridge_write.specs.Writing.{tail_at}
use Rattle.bridge_write.proofs.appenders.tail_in.Goals as goal

pub returns-in-0 : goal.returns-in-0
unfolding tail_at pick
returns-in-0 c = rw (eq-eqb c.args.kind 0 (omega arith), c.narrow.ensures)

pub returns-in-1 : goal.returns-in-1
unfolding tail_at pick
returns-in-1 c = rw (ne_eqb c.args.kind 0 (λ e. omega arith), eq-eqb c.args.kind 1 (omega arith), c.narrow-in-1.ensures)

pub returns-in_default : goal.returns-in_default
unfolding tail_at pick
returns-in_default c = rw (ne_eqb c.args.kind 0 (λ e. omega arith), ne_eqb c.args.kind 1 (λ e. omega arith))
