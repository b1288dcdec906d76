use mathlib.Core.Path.{◌≡◌, sym, ◌∙◌}
use mathlib.Core.Bool.{false}
use borrow.Author.Rules.{rules}
use Rattle.names.specs.Names.{dotted}
use Rattle.le.proofs.Choices.{pick_false}
use Rattle.store.proofs.Admits.{not_asked, by_dots}
use Rattle.store.proofs.opening.admitted.Goals as goal

pub returns-in-Err : goal.returns-in-Err
returns-in-Err c =
    let a = c.args in
    not_asked a.volume.now a.store a.name.now a.rolls a.dir.now c.open_fine.ensures c.asked-o.ensures
    c.in-Err.is

pub returns : goal.returns
returns c =
    let a = c.args in
    let plain : dotted a.name.now ≡ false = search rules in
    sym (pick_false _ _ plain)
    ∙ by_dots a.volume.now a.store a.name.now a.rolls a.dir.now c.open_fine.ensures c.asked-o.ensures
    c.in_default.is
