use Rattle.bridge.specs.Numbers.{store_of}
use Rattle.bridge.proofs.numbers.store_in.Goals as goal

pub returns : goal.returns
unfolding store_of
returns c =
    rw (
      c.narrow.ensures,
      c.narrow-2.ensures,
      c.narrow-3.ensures,
      c.narrow-4.ensures,
      c.writer_in.ensures,
      c.map_in.ensures,
    )
