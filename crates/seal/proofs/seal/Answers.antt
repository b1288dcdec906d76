use native.Mathlib.Omega.{arith}
use lib.ListN.{length-take}
use Rattle.seal.specs.Seal.{sealed}
use Rattle.seal.proofs.seal.Goals as goal

pub slice_bounds-crc32-end-2 : goal.slice_bounds-crc32-end-2
slice_bounds-crc32-end-2 c = simp length-take (omega arith)

pub returns : goal.returns
unfolding sealed
returns c = cc
