use Prim.Native.Nat.{ℕ}
use mathlib.Core.Path.{ap, ◌∙◌}
use mathlib.Core.List.{List}
use Rattle.le.specs.Part.{over}
use Rattle.bridge_write.proofs.Gone.{from_start}
use Rattle.bridge_write.proofs.appenders.gone_name.Goals as goal

pub returns : goal.returns
returns c =
    c.put_bytes.ensures ∙ ap (λ (s : List ℕ). over 0 s c.args.lent)
    (from_start _ _ ∙ c.gone_length-n.ensures.0)
