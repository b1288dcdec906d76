-- Numbers in decimal, as bytes: read (01, "Hosts"; 02, S-1) and written. Assumes nothing.
use Rattle.std.specs.Prelude.{ℕ, zero, suc, ◌+◌, ◌-◌, ◌*◌, ◌/◌, ◌%◌, ◌≡◌, Bool, true, ◌&&◌, List, [], ◌∷◌, ◌++◌, eqb, leb, ltb, length, get_or}
use Rattle.std.specs.Prelude.{Option, Some, None}
use Rattle.le.specs.Choice.{pick}
use Rattle.le.specs.Part.{over}

-- ---- read

-- 0-9
unfoldable pub is_digit : ℕ → Bool
is_digit b = leb 48 b && leb b 57

unfoldable pub all_digits : List ℕ → Bool
all_digits [] = true
all_digits (b ∷ bs) = is_digit b && all_digits bs

-- the number that digits say, the highest first, where those before them say n
unfoldable pub value_from : ℕ → List ℕ → ℕ
value_from n [] = n
value_from n (b ∷ bs) = value_from (n * 10 + (b - 48)) bs

-- the same where the bytes are digits and the number is at most the largest of its width; else there is none
unfoldable pub decimal_from : ℕ → ℕ → List ℕ → Option ℕ
decimal_from max n l = pick (all_digits l && leb (value_from n l) max) (Some (value_from n l)) None

-- the number of a field: no empty field is one, and leading zeros are allowed
unfoldable pub decimal_of : ℕ → List ℕ → Option ℕ
decimal_of max [] = None
decimal_of max (b ∷ bs) = decimal_from max 0 (b ∷ bs)

-- `0` and more bytes after it; `0` alone has no leading zero
unfoldable pub leading_zero : List ℕ → Bool
leading_zero l = leb 2 (length l) && eqb (get_or l 0 0) 48

-- the number of a field where no leading zero is allowed
unfoldable pub plain_of : ℕ → List ℕ → Option ℕ
plain_of max l = pick (leading_zero l) None (decimal_of max l)

-- ---- written

-- the digits of a number, the highest first, at most k of them
unfoldable pub digits_of : ℕ → ℕ → List ℕ
digits_of zero n = []
digits_of (suc k) n = pick (ltb n 10) ((48 + n) ∷ []) (digits_of k (n / 10) ++ ((48 + n % 10) ∷ []))

-- a number of 64 bits has at most 20
unfoldable pub decimal_text : ℕ → List ℕ
decimal_text n = digits_of 20 n

-- a text put at a place of a buffer, and where it ends
abbrev pub Put : ℕ → List ℕ → List ℕ → List ℕ → ℕ → Type 0
Put at text before after end = (after ≡ over at text before) × (end ≡ at + length text)
