-- The number of what the code answers is that of what the call answers. Assumes nothing.
use Rattle.std.specs.Prelude.{Result, Ok, Err}
use mathlib.Core.Path.{◌≡◌, refl}
use Rattle.medium.specs.declared.Error.{Error}
use Rattle.medium.specs.Refusal.{outcome_of}
use Rattle.bridge.specs.Numbers.{code_of, refusal_of}

pub code_is : (o : Result Unit Error) → refusal_of o ≡ code_of (outcome_of o)
code_is (Ok tt) = refl
code_is (Err e) = refl
