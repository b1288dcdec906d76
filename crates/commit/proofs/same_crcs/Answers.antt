use borrow.Author.Rules.{rules}
use mathlib.Core.Path.{◌≡◌, refl, sym, ◌∙◌}
use native.Mathlib.Omega.{arith}
use lib.ListN.{length}
use Rattle.runs.proofs.Runs.{pair_same, pair_other, pairs_end}
use Rattle.commit.proofs.same_crcs.Goals as goal

pub loop-i-init : goal.loop-i-init
loop-i-init c = (search rules, refl)

pub returns-then-a-i : goal.returns-then-a-i
returns-then-a-i c =
    let n : length c.args.a ≡ 24 = search (rules, c.well_formed) in
    let n' : length c.args.b ≡ 24 = search (rules, c.well_formed) in
    sym (sym c.loop-i.invariant.1 ∙ pair_other c.args.a c.args.b
    c.loop-i.i (omega arith) (omega arith) c.if-a-i.true)

pub loop-i-preserved : goal.loop-i-preserved
loop-i-preserved c =
    let n : length c.args.a ≡ 24 = search (rules, c.well_formed) in
    let n' : length c.args.b ≡ 24 = search (rules, c.well_formed) in (
      search rules,
      pair_same c.args.a c.args.b c.loop-i.i (omega arith) (omega arith)
          c.if-a-i.false ∙ c.loop-i.invariant.1,
    )

pub returns : goal.returns
returns c =
    let n : length c.args.a ≡ 24 = search (rules, c.well_formed) in
    let n' : length c.args.b ≡ 24 = search (rules, c.well_formed) in
    sym (sym c.loop-i.invariant.1 ∙ pairs_end c.args.a c.args.b c.loop-i.i (omega arith) (n ∙ sym n'))
