use borrow.Author.Tests.{not-true, not-false}
use Rattle.bridge_write.proofs.Gone.{words_refused, words_none, words_went}
use Rattle.bridge_write.proofs.appenders.gone_words.Goals as goal

pub returns-in-Err : goal.returns-in-Err
returns-in-Err c = words_refused _ c.in-Err.is

pub returns-then-not-g : goal.returns-then-not-g
returns-then-not-g c = words_none _ c.in_default.is (not-true _ c.if-not-g.true)

pub returns : goal.returns
returns c = words_went _ c.in_default.is (not-false _ c.if-not-g.false) c.gone_length-n.ensures
