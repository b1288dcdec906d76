use mathlib.Core.Path.{sym, ◌∙◌}
use Rattle.le.proofs.Choices.{pick_true, pick_false}
use Rattle.plan.proofs.map.free_link.Goals as goal

pub returns-then-owned : goal.returns-then-owned
returns-then-owned c = c.put.ensures ∙ sym (pick_true _ _ (sym c.owned.ensures ∙ c.if-owned.true))

pub returns-else-owned : goal.returns-else-owned
returns-else-owned c = sym (pick_false _ _ (sym c.owned.ensures ∙ c.if-owned.false))
