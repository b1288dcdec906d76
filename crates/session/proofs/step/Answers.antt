use Rattle.session.proofs.Ways.{stepped}
use Rattle.session.proofs.step.Goals as goal

pub returns : goal.returns
returns c =
    let a = c.args in
    stepped a.volume.now a.rows.now a.line.now a.session c.allowed-session.ensures c.line_reply-reply.ensures
