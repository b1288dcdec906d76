use mathlib.Core.Path.{◌≡◌}
use lib.ListN.{length}
use Rattle.walk.specs.Walk.{next}
use Rattle.walk.proofs.Laws.{At}
use Rattle.table.specs.Link.{clear_link, cleared_of}
use Rattle.table.proofs.clear_links.Given as goal

abbrev pub invariant-loop-i : goal.invariant-loop-i
invariant-loop-i l =
    (At (λ j s k. next (clear_link l.slot k s)) (λ j. j) (λ s. s) 128 (cleared_of l.slot l.initial.sector) l.i l.sector) × (length l.sector ≡ length l.initial.sector)
