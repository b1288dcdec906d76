use borrow.Author.Rules.{rules}
use borrow.Author.Tests.{tests}
use Rattle.std.proofs.lemmas.Iterator.Splits.{YieldsList-from_slice_split}
use Rattle.std.proofs.lemmas.Iterator.Search.{any_from_yields_List}
use Rattle.names.specs.Names.{is_slash, begins_dot}
use Rattle.names.proofs.Dots.{by_parts}
use Rattle.names.proofs.dotted.Goals as goal

pub returns : goal.returns
returns c =
    let bytes = c.args.bytes.now in
    by_parts bytes (any_from_yields_List begins_dot _ _ c.any.result c.any.ensures.ran
    (YieldsList-from_slice_split _ is_slash bytes c.split.ensures.rest c.split.ensures.done c.split.ensures.closure (λ x b q k. search (rules, tests)))
    (λ x b q k. search (rules, tests)))
