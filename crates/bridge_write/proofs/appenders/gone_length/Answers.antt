use borrow.Author.Tests.{not-true, not-false}
use borrow.Author.Rules.{rules}
use Rattle.bridge_write.proofs.Gone.{name_refused, name_none, name_short, name_long}
use Rattle.bridge_write.proofs.appenders.gone_length.Goals as goal

pub returns-in-Err : goal.returns-in-Err
returns-in-Err c = name_refused _ c.in-Err.is

pub returns-then-not-g : goal.returns-then-not-g
returns-then-not-g c = name_none _ c.in_default.is (not-true _ c.if-not-g.true)

pub returns-then-g-lt40 : goal.returns-then-g-lt40
returns-then-g-lt40 c =
    name_short _ c.in_default.is (not-false _ c.if-not-g.false)
    (search (rules, c.well_formed)) c.if-g-lt40.true

pub returns : goal.returns
returns c =
    name_long _ c.in_default.is (not-false _ c.if-not-g.false)
    (search (rules, c.well_formed)) c.if-g-lt40.false
