use Rattle.std.proofs.Common.{arith}
use Rattle.std.proofs.lemmas.Bool.Decides.{nat_tests}
use Rattle.lines.proofs.Feeds.{last_empty, last_line}
use Rattle.lines.proofs.last.Goals as goal

pub returns-then-is_empty : goal.returns-then-is_empty
returns-then-is_empty c = (
  let args = c.args in last_empty args.volume.now args.session args.line.now args.out.now (grind (arith, nat_tests)),
  omega arith,
)

pub returns : goal.returns
returns c =
    let args = c.args in (
      last_line args.volume.now args.session args.line.now args.out.now (λ e. grind (arith, nat_tests)) c.answer.ensures.2,
      c.answer.ensures.3,
    )
