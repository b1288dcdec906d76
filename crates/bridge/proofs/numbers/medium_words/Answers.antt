use mathlib.Core.Path.{refl}
use Rattle.bridge.specs.Numbers.{medium_words}
use Rattle.bridge.proofs.numbers.medium_words.Goals as goal

pub returns : goal.returns
unfolding medium_words
returns c = refl
