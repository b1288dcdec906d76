use borrow.Author.Rules.{rules}
use Rattle.le.specs.Part.{zeros}
use Rattle.lines.proofs.Feeds.{reply_few, answered}
use Rattle.lines.proofs.answer.Goals as goal

pub put_reply-count-requires : goal.put_reply-count-requires
unfolding zeros
put_reply-count-requires c = (
  c.requires,
  search rules,
  let args = c.args in
      reply_few args.volume.now args.session args.line.now c.step-t.result c.step-t.ensures,
)

pub returns : goal.returns
unfolding zeros
returns c =
    let args = c.args in
    answered args.volume.now args.session args.line.now c.step-t.result c.step-t.ensures args.out.now
    c.put_reply-count.ensures
