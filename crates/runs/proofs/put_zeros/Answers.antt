use native.Mathlib.Omega.{arith}
use Rattle.runs.proofs.Runs.{zeros_back}
use Rattle.runs.proofs.put_zeros.Goals as goal

pub returns : goal.returns
returns c =
    let l = c.loop-b in
    zeros_back c.args.at c.args.n l.b-items c.args.dst.now (omega arith) (λ k h. l.invariant k (omega arith))
