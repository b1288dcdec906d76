use borrow.Author.Rules.{rules}
use Rattle.checksum.proofs.Tables.{both_halves}
use Rattle.checksum.proofs.running.Table.byte_step.Goals as goal

pub returns : goal.returns
returns c =
    let a = c.args in
    both_halves a.self.now.entries a.c c.from.result a.b (search rules) c.from.ensures
