use Prim.Native.Nat.{◌≤◌}
use mathlib.Core.Path.{◌≡◌}
use Rattle.freemap.specs.Map.{marks, words_of}
use Rattle.freemap.proofs.Upto.{upto}
use Rattle.table.specs.Link.{link_part, owned_by}
use Rattle.plan.proofs.map.freed.Given as goal

abbrev pub invariant-loop-c : goal.invariant-loop-c
invariant-loop-c l =
    (l.words ≡ words_of (upto (marks l.store.free.words) (λ d. owned_by l.slot (link_part l.volume l.store d)) l.c)) × (l.c ≤ l.c-end)
