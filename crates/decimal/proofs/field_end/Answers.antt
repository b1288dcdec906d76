use borrow.Author.Rules.{rules}
use borrow.Author.Tests.{tests}
use Prim.Native.Nat.{◌-◌}
use native.Mathlib.Omega.{arith}
use lib.Dec.{eqb}
use lib.ListN.{length, take, drop, length-drop}
use Rattle.std.proofs.lemmas.Iterator.{YieldsList-from_slice}
use Rattle.std.proofs.lemmas.Iterator.Search.{position_from_yields_List}
use Rattle.decimal.proofs.Ends.{tab_found, tab_none, tail_part}
use Rattle.decimal.proofs.field_end.Goals as goal

pub returns-in-Some : goal.returns-in-Some
returns-in-Some c =
    let rest = take (length c.args.line.now - c.args.from) (drop c.args.from c.args.line.now) in
    let said = position_from_yields_List (λ b. eqb b 9) _ _ c.position.result c.position.ensures.ran (YieldsList-from_slice rest c.iter.ensures.rest) (λ x b q k. search (rules, tests)) in
    let found = simp tail_part at (tab_found rest said c.in-Some.is) in
    omega (arith, found.0, found.1, length-drop c.args.from c.args.line.now)

pub returns-in-None : goal.returns-in-None
returns-in-None c =
    let rest = take (length c.args.line.now - c.args.from) (drop c.args.from c.args.line.now) in
    let said = position_from_yields_List (λ b. eqb b 9) _ _ c.position.result c.position.ensures.ran (YieldsList-from_slice rest c.iter.ensures.rest) (λ x b q k. search (rules, tests)) in
    omega (arith, simp tail_part at (tab_none rest said c.in-None.is), length-drop c.args.from c.args.line.now)
