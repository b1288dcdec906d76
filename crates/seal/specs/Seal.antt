-- 01, "Header" and "Record": byte 508 on holds the CRC of bytes 0 to 507. Assumes nothing.
use Rattle.std.specs.Prelude.{ℕ, Bool, List, eqb, take}
use Rattle.le.specs.Field.{get_le, put_le}
use Rattle.checksum.specs.Crc.{crc32_of}

-- the sector with its checksum put in
unfoldable pub sealed : List ℕ → List ℕ
sealed l = put_le 4 508 (crc32_of (take 508 l)) l

-- the checksum that it holds is that of its bytes
unfoldable pub is_sealed : List ℕ → Bool
is_sealed l = eqb (get_le 4 508 l) (crc32_of (take 508 l))
