use Rattle.checksum.specs.Crc.{crc32_of}
use Rattle.checksum.proofs.crc32.Goals as goal

pub returns : goal.returns
unfolding crc32_of
returns c = cc
