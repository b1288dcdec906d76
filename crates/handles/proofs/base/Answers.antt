use borrow.Author.Tests.{eq-eqb, ne_eqb}
use native.Mathlib.Omega.{arith}
use Rattle.le.specs.Choice.{pick}
use Rattle.handles.specs.Handles.{base_of}
use Rattle.handles.proofs.base.Goals as goal

pub returns-then-copy-eq0 : goal.returns-then-copy-eq0
unfolding base_of pick
returns-then-copy-eq0 c = (simp (eq-eqb _ _ c.if-copy-eq0.true), omega arith)

pub returns-else-copy-eq0 : goal.returns-else-copy-eq0
unfolding base_of pick
returns-else-copy-eq0 c = (simp (ne_eqb _ _ c.if-copy-eq0.false), omega arith)
