use borrow.Author.Rules.{rules}
use borrow.Author.Tests.{tests}
use Rattle.std.proofs.lemmas.Iterator.{YieldsList-from_slice}
use Rattle.std.proofs.lemmas.Iterator.Search.{all_from_yields_List}
use Rattle.names.specs.Names.{plain_byte}
use Rattle.names.proofs.Segments.{all_plain}
use Rattle.names.proofs.segment_ok.Goals as goal

pub returns-then-not-is_empty : goal.returns-then-not-is_empty
returns-then-not-is_empty c =
    let segment = c.args.segment.now in
    let said = all_from_yields_List plain_byte _ _ c.all.result c.all.ensures.ran (YieldsList-from_slice segment c.iter.ensures.rest) (λ x b q k. search (rules, tests)) in
    all_plain segment (search (rules, tests)) said
