use borrow.Author.Rules.{rules}
use Prim.Native.Nat.{◌≤◌}
use mathlib.Core.Path.{◌≡◌}
use native.Mathlib.Omega.{arith}
use lib.ListN.{length}
use Rattle.decimal.specs.Decimal.{decimal_text}
use Rattle.decimal.proofs.Round.{text_short}
use Rattle.marks.proofs.Lines.{line_put}
use Rattle.marks.proofs.line.Goals as goal

pub returns : goal.returns
returns c =
    let short-id : length (decimal_text c.args.id) ≤ 10 = text_short c.args.id (omega (arith, c.ranges.id)) in
    let short-number : length (decimal_text c.args.number) ≤ 10 = text_short c.args.number (omega (arith, c.ranges.number)) in
    let size : length c.args.out.now ≡ 39 = search rules in
    line_put c.args.out.now c.args.point.now c.args.id c.args.number size c.requires short-id short-number
    c.put_bytes.ensures c.put_field-a.ensures c.put_field-b.ensures c.put_bytes-2.ensures
