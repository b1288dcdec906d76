-- The lanes of a block, and their sums put together. Only the contracts of private functions name these. Assumes nothing.
use Rattle.std.specs.Prelude.{ℕ, ◌+◌, ◌*◌, List, [], ◌∷◌, length, get_or}
use Rattle.std.specs.Int.Bits.{bit_xor}
use Rattle.checksum.specs.Crc.{bit_steps}

-- the bytes of a lane
abbrev pub lane : ℕ
lane = 63

-- its bits
abbrev pub lane_bits : ℕ
lane_bits = 8 * lane

-- byte i of lane j
abbrev pub lane_byte : List ℕ → ℕ → ℕ → ℕ
lane_byte part i j = get_or part (i + lane * j) 0

-- each lane's sum moves over the bits of those after it
unfoldable pub joined : List ℕ → ℕ
joined [] = 0
joined (x ∷ xs) = bit_xor (bit_steps (lane_bits * length xs) x) (joined xs)
