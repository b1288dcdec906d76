use Rattle.reader.proofs.Blanks.{Counted}
use Rattle.reader.proofs.Reader.blanks.Given as goal

abbrev pub invariant-loop-number : goal.invariant-loop-number
invariant-loop-number l = Counted l.volume l.store l.self l.from l.to l.blank l.number
