use borrow.Author.Rules.{rules}
use borrow.Author.Tests.{tests}
use native.Mathlib.Omega.{arith}
use Rattle.std.proofs.lemmas.Iterator.Splits.{YieldsList-from_slice_split}
use Rattle.std.proofs.lemmas.Iterator.Search.{all_from_yields_List}
use Rattle.names.specs.Names.{is_slash}
use Rattle.names.proofs.Segments.{segment_ok, by_parts}
use Rattle.names.proofs.name_ok.Goals as goal

pub returns : goal.returns
returns c =
    let bytes = c.args.bytes.now in
    by_parts bytes (omega arith) (all_from_yields_List segment_ok _ _ c.all.result c.all.ensures.ran
    (YieldsList-from_slice_split _ is_slash bytes c.split.ensures.rest c.split.ensures.done c.split.ensures.closure (λ x b q k. search (rules, tests)))
    (λ x b q k. search (rules, tests)))
