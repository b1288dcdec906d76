use Rattle.std.proofs.Common.{sym, arith}
use lib.Seq.{length-take-le}
use Rattle.le.specs.Part.{part}
use Rattle.lines.proofs.Pens.{row_put, text_short}
use Rattle.lines.proofs.text.put_row.Goals as goal

pub slice_bounds-text_len-end : goal.slice_bounds-text_len-end
slice_bounds-text_len-end c = sym (length-take-le 40 c.args.row.now (omega (arith, c.requires.1)))

pub slice_bounds-put-end : goal.slice_bounds-put-end
unfolding part
slice_bounds-put-end c =
    sym (length-take-le c.text_len-n.result c.args.row.now (omega (arith, text_short c.args.row.now c.requires.1 c.text_len-n.ensures)))

pub returns : goal.returns
unfolding part
returns c =
    row_put c.args.out.now c.args.at c.args.row.now _ _ _ c.requires.0 c.requires.1
    c.text_len-n.ensures c.get_u32-id.ensures c.get_u32-chunks.ensures c.put-a.ensures
    c.put_field-b.ensures c.put_field-c.ensures c.put.ensures
