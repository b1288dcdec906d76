use Rattle.reader.proofs.Blanks.{count_next, count_end}
use Rattle.reader.proofs.Reader.blanks.Goals as goal

pub loop-number-preserved : goal.loop-number-preserved
loop-number-preserved c = count_next _ _ _ _ _ c.loop-number.invariant c.loop-number-test.true c.blank_at.ensures c.from-blank.ensures

pub returns : goal.returns
returns c = count_end _ _ _ _ _ c.loop-number.invariant c.loop-number-test.false
