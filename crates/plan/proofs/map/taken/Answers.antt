use mathlib.Core.Path.{ap, ◌∙◌}
use mathlib.Core.Bool.{false}
use Rattle.freemap.specs.Map.{put_of}
use Rattle.plan.proofs.Maps.{fitted, taken_one, taken_two}
use Rattle.plan.proofs.map.taken.Goals as goal

pub returns-then-partial : goal.returns-then-partial
returns-then-partial c =
    let a = c.args in
    let mid = c.put.ensures in
    rw c.if-partial.true (ap fitted (c.put-then-partial.ensures ∙ ap (λ w. put_of w a.last false) mid ∙ taken_two a.words a.next a.last))

pub returns-else-partial : goal.returns-else-partial
returns-else-partial c =
    let a = c.args in
    rw c.if-partial.false (ap fitted (c.put.ensures ∙ taken_one a.words a.next a.last))
