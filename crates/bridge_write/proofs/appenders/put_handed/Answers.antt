use Rattle.std.proofs.Common.{◌∙◌}
use Rattle.bridge.proofs.Codes.{code_is}
use Rattle.bridge_write.proofs.appenders.put_handed.Goals as goal

pub returns : goal.returns
returns c =
    let a = c.put_appender.ensures in
    let p = c.put_store.ensures in
    rw (c.code.ensures ∙ code_is c.args.r.outcome, a.0, a.1, a.2, p.0, p.1, c.medium_words.ensures)
