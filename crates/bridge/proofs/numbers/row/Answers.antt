use Rattle.bridge.specs.Numbers.{row_words, flag_of}
use Rattle.std.proofs.Common.{[], ◌∷◌}
use Rattle.bridge.proofs.numbers.row.Goals as goal

pub returns : goal.returns
unfolding row_words
returns c = rw (c.flag.ensures, c.writer_numbers-open.ensures (flag_of c.args.s.free.fit ∷ []))
