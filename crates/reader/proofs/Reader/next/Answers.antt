use mathlib.Core.Path.{◌∙◌}
use Rattle.reader.proofs.Cuts.{read_all}
use Rattle.reader.proofs.Reader.next.Goals as goal

pub returns : goal.returns
returns c =
    let a = c.args in
    c.read.ensures ∙ read_all a.volume.now a.medium a.store a.self a.out.now
