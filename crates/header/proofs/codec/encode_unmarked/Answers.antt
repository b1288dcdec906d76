use Rattle.header.specs.Header.{unmarked_of}
use Rattle.header.proofs.codec.encode_unmarked.Goals as goal

pub returns : goal.returns
unfolding unmarked_of
returns c = rw (← c.encode.ensures) c.put_zeros.ensures
