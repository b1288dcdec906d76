use Rattle.lines.proofs.Pens.{word_put}
use Rattle.lines.proofs.text.put_word.Goals as goal

pub returns : goal.returns
returns c =
    word_put c.args.out.now c.args.word.now _ c.requires.0 c.requires.1 c.put-a.ensures c.put_field-b.ensures
    c.put.ensures
