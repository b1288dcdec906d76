use borrow.Author.Rules.{rules}
use mathlib.Core.Path.{refl, sym, ◌∙◌}
use native.Mathlib.Omega.{arith}
use Rattle.runs.proofs.Runs.{all_next, all_end}
use Rattle.runs.proofs.all_same.Goals as goal

pub loop-b-preserved : goal.loop-b-preserved
loop-b-preserved c =
    let l = c.loop-b in
    let a = c.args in
    (search rules, all_next a.byte a.bytes.now l.b-index l.same (omega arith) ∙ l.invariant.1)

pub returns : goal.returns
returns c =
    let l = c.loop-b in
    let a = c.args in
    sym (sym l.invariant.1 ∙ all_end a.byte a.bytes.now l.b-index l.same (omega arith))
