use Rattle.std.proofs.Common.{[], ◌∷◌}
use Rattle.bridge.specs.Numbers.{reader_words}
use Rattle.bridge.proofs.numbers.reader_words.Goals as goal

pub returns : goal.returns
unfolding reader_words
returns c = let r = c.args.r in rw (c.end_numbers-known.ensures (r.position ∷ r.index ∷ []))
