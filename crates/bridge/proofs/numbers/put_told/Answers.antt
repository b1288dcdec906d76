use Rattle.std.proofs.Common.{◌∙◌}
use Rattle.bridge.proofs.Codes.{code_is}
use Rattle.bridge.proofs.numbers.put_told.Goals as goal

pub returns : goal.returns
returns c =
    let p = c.put_store.ensures in
    rw (c.code.ensures ∙ code_is c.args.r.outcome, p.0, p.1, c.medium_words.ensures)
