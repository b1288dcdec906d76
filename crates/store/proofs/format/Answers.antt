use mathlib.Core.Path.{ap, ◌∙◌}
use Rattle.plan.specs.declared.Committed.{Committed}
use Rattle.store.specs.declared.StoreAnswer.{StoreAnswer}
use Rattle.store.specs.Reading.{store_answer}
use Rattle.store.specs.Writing.{answer_of, format_call}
use Rattle.store.proofs.format.Goals as goal

pub returns : goal.returns
unfolding format_call
returns c = (
  c.format.ensures.0,
  ap (λ (r : StoreAnswer). store_answer r) c.committed.ensures ∙ ap (λ (z : Committed). store_answer (answer_of z)) c.format.ensures.1,
)
