use native.Mathlib.Omega.{arith}
use Rattle.lines.proofs.Pens.{number_put, rows_few, rows_put, refusal_put}
use Rattle.lines.proofs.text.put_reply.Goals as goal

pub put_rows-requires : goal.put_rows-requires
put_rows-requires c =
    let n = rows_few c.requires.2 c.in-Ok-Rows.is (rw c.in-Ok-Rows.is at c.in-Ok-Rows.field-0-is) in
    (omega (arith, n, c.put_word-at.ensures.1), omega (arith, n))

pub returns-in-Ok-Number : goal.returns-in-Ok-Number
returns-in-Ok-Number c =
    let args = c.args in
    number_put args.out.now args.rows.now args.reply c.in-Ok-Number.is (rw c.in-Ok-Number.is at c.in-Ok-Number.field-0-is) c.put_word.ensures

pub returns-in-Ok-Rows : goal.returns-in-Ok-Rows
returns-in-Ok-Rows c =
    rows_put c.args.out.now c.args.rows.now c.args.reply c.in-Ok-Rows.is c.requires.0 c.requires.2 (rw c.in-Ok-Rows.is at c.in-Ok-Rows.field-0-is)
    c.put_word-at.ensures c.put_rows.ensures

pub returns-in-Err : goal.returns-in-Err
returns-in-Err c =
    let args = c.args in
    refusal_put args.out.now args.rows.now args.reply c.in-Err.is c.number.ensures c.put_word-in-Err.ensures
