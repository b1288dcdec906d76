use borrow.Author.Rules.{rules}
use mathlib.Core.Path.{refl, ap, ◌∙◌}
use lib.ListN.{set}
use lib.Seq.{paste-zero}
use Rattle.le.specs.Part.{zeros}
use Rattle.store.proofs.Laws.{cleared_turn, cleared_all}
use Rattle.store.proofs.clear_counts.Goals as goal

pub loop-i-init : goal.loop-i-init
loop-i-init c = (search rules, refl, paste-zero c.args.counts.now 0 (zeros 64))

pub loop-i-preserved : goal.loop-i-preserved
loop-i-preserved c =
    let l = c.loop-i in (
      search rules,
      search rules,
      ap (λ (x : _). set x l.i 0) l.invariant.2 ∙ cleared_turn c.args.counts.now l.i c.requires c.loop-i-test.true,
    )

pub returns : goal.returns
returns c = let l = c.loop-i in cleared_all c.args.counts.now c.loop-i-test.false l.invariant.0 l.invariant.2
