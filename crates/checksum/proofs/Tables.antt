-- 02, S-10: the 16 entries and the 256 agree, for all bytes and all starting states. Each table follows the rule by one computed test; from there one
-- argument over a table of any size serves both, and no byte is a case of its own. Assumes nothing.
use mathlib.Core.Path.{◌≡◌, refl, sym, ap, subst, ◌∙◌}
use mathlib.Core.List.{List}
use Prim.Native.Nat.{ℕ, ◌/◌, ◌%◌, ◌^◌, ◌<◌}
use native.Mathlib.Omega.{arith}
use native.Mathlib.Nat.{mod-lt, div-eq_of_lt}
use lib.Pow.{pow_pos}
use lib.Dec.{T}
use lib.Bits.{bit_xor, xor_shr, xor_zero_r}
use lib.ListN.{length, get_or}
use Rattle.checksum.specs.Crc.{bit_steps, bit_step, byte_step, added}
use Rattle.checksum.specs.Tables.{table256, table16, Rule, step_by, by_byte, by_halves, Sixteen}
use Rattle.checksum.proofs.Table.{every, agrees, rule}
use Rattle.checksum.proofs.Steps.{steps_split, steps_add, steps_parts}

-- the rule of a table, by one test of all its entries
pub follows : (bits : ℕ) (table : List ℕ) → length table ≡ 2 ^ bits → T (every (agrees (bit_steps bits)) 0 table) → Rule bits table
follows bits table size t = record { size = size; entry = λ i h. rule (bit_steps bits) table i t (subst (λ (n : ℕ). i < n) (sym size) h) }

rule16 : Rule 4 table16
unfolding table16 bit_steps bit_step added
rule16 = follows 4 table16 refl tt

rule256 : Rule 8 table256
unfolding table256 bit_steps bit_step added
rule256 = follows 8 table256 refl tt

-- the argument: the low bits of a word go out by their entry
pub by_entry : (bits : ℕ) (table : List ℕ) → Rule bits table → (x : ℕ) → bit_xor (x / 2 ^ bits) (get_or table (x % 2 ^ bits) 0) ≡ bit_steps bits x
by_entry bits table r x = ap (bit_xor (x / 2 ^ bits)) (r.entry (x % 2 ^ bits) (mod-lt x (pow_pos bits))) ∙ sym (steps_split bits x)

-- new bits that lie below those that move down do not change them
pub step_is : (bits : ℕ) (table : List ℕ) → Rule bits table → (c new : ℕ) → new < 2 ^ bits → step_by bits table c new ≡ bit_steps bits (bit_xor c new)
unfolding step_by
step_is bits table r c new h =
    ap (λ (y : ℕ). bit_xor y (get_or table (bit_xor c new % 2 ^ bits) 0))
    (sym (xor_shr c new bits ∙ ap (bit_xor (c / 2 ^ bits)) (div-eq_of_lt h) ∙ xor_zero_r (c / 2 ^ bits)))
    ∙ by_entry bits table r (bit_xor c new)

pub byte_is : (c b : ℕ) → b < 2 ^ 8 → by_byte c b ≡ byte_step c b
unfolding by_byte byte_step
byte_is = step_is 8 table256 rule256

pub halves_is : (c b : ℕ) → b < 2 ^ 8 → by_halves c b ≡ byte_step c b
unfolding by_halves byte_step
halves_is c b h =
    step_is 4 table16 rule16 (step_by 4 table16 c (b % 2 ^ 4)) (b / 2 ^ 4) (omega arith)
    ∙ ap (λ (s : ℕ). bit_steps 4 (bit_xor s (b / 2 ^ 4))) (step_is 4 table16 rule16 c (b % 2 ^ 4) (mod-lt b (pow_pos 4)))
    ∙ sym (steps_parts 4 4 c b)

pub sixteen : Sixteen
sixteen = record { rule16 = rule16; rule256 = rule256; agree = λ c b h. halves_is c b h ∙ sym (byte_is c b h); sum = halves_is }

-- the code's byte, by a table that holds the 16: it goes in whole, then both halves of the low byte go out
pub both_halves : (t : List ℕ) (c w b : ℕ) → t ≡ table16 → w ≡ b
    → (let x : ℕ = bit_xor c w in let y : ℕ = bit_xor (x / 2 ^ 4) (get_or t (x % 2 ^ 4) 0) in bit_xor (y / 2 ^ 4) (get_or t (y % 2 ^ 4) 0)) ≡ byte_step c b
unfolding byte_step
both_halves t c w b et ew =
    let x : ℕ = bit_xor c b in
    rw (et, ew) (by_entry 4 table16 rule16 (bit_xor (x / 2 ^ 4) (get_or table16 (x % 2 ^ 4) 0)) ∙ ap (bit_steps 4) (by_entry 4 table16 rule16 x) ∙ sym (steps_add 4 4 x))
