use native.Mathlib.Omega.{arith}
use lib.ListN.{length-take}
use Rattle.seal.specs.Seal.{is_sealed}
use Rattle.seal.proofs.is_sealed.Goals as goal

pub slice_bounds-crc32-end : goal.slice_bounds-crc32-end
slice_bounds-crc32-end c = simp length-take (omega arith)

pub returns : goal.returns
unfolding is_sealed
returns c = cc
