use mathlib.Core.Path.{sym, ◌∙◌, subst}
use Prim.Native.Nat.{ℕ, ◌≤◌, ◌<◌}
use borrow.Author.Tests.{lt-ltb, le-ltb}
use Rattle.le.proofs.Choices.{pick_true, pick_false}
use Rattle.freemap.specs.Map.{chosen_of}
use Rattle.freemap.proofs.choose.Goals as goal

pub returns-then-c-lt2048 : goal.returns-then-c-lt2048
unfolding chosen_of
returns-then-c-lt2048 c = let e = c.first_from-c.ensures in e ∙ sym (pick_true _ _ (lt-ltb _ 2048 (subst (λ (r : ℕ). r < 2048) e c.if-c-lt2048.true)))

pub returns-else-c-lt2048 : goal.returns-else-c-lt2048
unfolding chosen_of
returns-else-c-lt2048 c =
    let e = c.first_from-c.ensures in
    c.first_from.ensures ∙ sym (pick_false _ _ (le-ltb _ 2048 (subst (λ (r : ℕ). 2048 ≤ r) e c.if-c-lt2048.false)))
