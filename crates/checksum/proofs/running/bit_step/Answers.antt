use Prim.Native.Nat.{◌/◌, ◌%◌}
use mathlib.Core.Path.{ap}
use native.Mathlib.Nat.{mod-lt}
use lib.Pow.{pow_pos}
use lib.Bits.{bit_xor}
use Rattle.checksum.specs.Crc.{bit_step}
use Rattle.checksum.proofs.Moved.{times_poly}
use Rattle.checksum.proofs.running.bit_step.Goals as goal

pub returns : goal.returns
unfolding bit_step
returns c =
    let x = c.args.c in
    ap (bit_xor (x / 2)) (times_poly (x % 2) (mod-lt x (pow_pos 1)))
