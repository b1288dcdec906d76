use native.Mathlib.Omega.{arith}
use Rattle.lines.proofs.Gathers.{keep_more, keep_none}
use Rattle.lines.proofs.input.keep.Goals as goal

pub returns-then-fill-lt-KEPT : goal.returns-then-fill-lt-KEPT
returns-then-fill-lt-KEPT c = (keep_more c.args.line.now c.args.fill c.args.b c.if-fill-lt-KEPT.true c.requires.1, omega arith)

pub returns-else-fill-lt-KEPT : goal.returns-else-fill-lt-KEPT
returns-else-fill-lt-KEPT c = (keep_none c.args.line.now c.args.fill c.args.b (omega arith) (omega arith), omega arith)
