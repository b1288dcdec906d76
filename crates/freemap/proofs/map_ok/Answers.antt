use mathlib.Core.Path.{sym, ap, ◌∙◌}
use Prim.Native.Nat.{ℕ}
use lib.Dec.{eqb}
use Rattle.le.proofs.Choices.{pick_true, pick_false}
use Rattle.freemap.specs.Map.{first_from, map_ok}
use Rattle.freemap.proofs.map_ok.Goals as goal

pub returns-then-map : goal.returns-then-map
unfolding map_ok
returns-then-map c =
    let a = c.args in
    c.none_from.ensures ∙ ap (λ (n : ℕ). eqb (first_from a.map.words n) 2048) (sym (pick_true a.chunks 0 c.if-map.true))

pub returns-else-map : goal.returns-else-map
unfolding map_ok
returns-else-map c =
    let a = c.args in
    c.none_from-else-map.ensures ∙ ap (λ (n : ℕ). eqb (first_from a.map.words n) 2048) (sym (pick_false a.chunks 0 c.if-map.false))
