use Rattle.bridge.specs.Numbers.{reader_of}
use Rattle.bridge.proofs.numbers.reader_in.Goals as goal

pub returns : goal.returns
unfolding reader_of
returns c =
    rw (
      c.end_in.ensures,
      c.narrow.ensures,
      c.narrow-2.ensures,
      c.narrow-3.ensures,
      c.narrow-4.ensures,
      c.narrow-5.ensures,
    )
