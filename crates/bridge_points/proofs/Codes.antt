-- The number of what the code answers is that of what the call answers. Assumes nothing.
use Rattle.std.specs.Prelude.{ℕ, List, Result, Ok, Err}
use mathlib.Core.Path.{◌≡◌, refl}
use Rattle.medium.specs.declared.Error.{Error}
use Rattle.medium.specs.declared.Medium.{Medium}
use Rattle.reader.specs.declared.Upto.{Upto}
use Rattle.points.specs.Set.{set_answer}
use Rattle.points.specs.Reading.{upto_answer}
use Rattle.bridge.specs.Numbers.{code_of, refusal_of, medium_words, reader_words}
use Rattle.bridge_points.specs.Points.{upto_limit, point_words}

pub set_code : (o : Result ℕ Error) → refusal_of o ≡ code_of (set_answer o)
set_code (Ok n) = refl
set_code (Err e) = refl

pub point_told : (u : Result Upto Error) (m : Medium) {x : Upto} → x ≡ (upto_answer u m).upto
    → ◌≡◌ {A = ℕ × List ℕ × List ℕ × List ℕ} (refusal_of u, reader_words x.reader, upto_limit x, medium_words m) (point_words (upto_answer u m))
point_told (Ok u) m q = rw q
point_told (Err e) m q = rw q
