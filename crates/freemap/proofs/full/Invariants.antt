use mathlib.Core.Path.{◌≡◌}
use mathlib.Core.Bool.{true, false}
use Prim.Native.Nat.{◌≤◌}
use Rattle.freemap.specs.Map.{words_of}
use Rattle.freemap.proofs.Upto.{upto}
use Rattle.freemap.proofs.full.Given as goal

abbrev pub invariant-loop-c : goal.invariant-loop-c
invariant-loop-c l = (l.c ≤ l.chunks) × (l.words ≡ words_of (upto (λ d. false) (λ d. true) l.c))
