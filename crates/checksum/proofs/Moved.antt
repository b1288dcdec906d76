-- A word moved over a lane of zeros, bit by bit: what becomes of the highest is computed, the next one takes a step more, and so on. Assumes nothing.
use mathlib.Core.Path.{◌≡◌, refl, sym, ap, subst, ◌∙◌}
use Prim.Native.Nat.{ℕ, ◌+◌, ◌-◌, ◌*◌, ◌/◌, ◌%◌, ◌^◌, ◌<◌, ◌≤◌}
use native.Mathlib.Nat.{mod-lt, mod-eq_of_lt, zero-mul, one-mul, add_comm}
use native.Mathlib.Omega.{arith}
use lib.Dec.{lit<}
use lib.Pow.{pow_pos, pow-add, mod-pow-add}
use lib.Bits.{bit_xor, xor_zero_l, xor_zero_r, xor_shifted}
use Rattle.checksum.specs.Crc.{poly, added, bit_step, bit_steps}
use Rattle.checksum.specs.Lanes.{lane_bits}
use Rattle.checksum.proofs.Xor.{by_digit}
use Rattle.std.specs.Int.Bits.{xor_assoc}
use Rattle.checksum.proofs.Steps.{steps_xor, steps_zero, steps_shifted, steps_add, steps_lt}

-- a bit times the polynomial is what a low bit adds; times any word, it is that word or nothing
pub times_poly : (b : ℕ) → b < 2 → b * poly ≡ added b
unfolding added
times_poly = by_digit (λ (b : ℕ). b * poly ≡ added b) refl refl

times_lt : (k m : ℕ) → k < m → (b : ℕ) → b < 2 → b * k < m
times_lt k m h = by_digit (λ (b : ℕ). b * k < m) (omega arith) (omega arith)

steps_times : (k x b : ℕ) → b < 2 → bit_steps k (b * x) ≡ b * bit_steps k x
steps_times k x =
    by_digit (λ (b : ℕ). bit_steps k (b * x) ≡ b * bit_steps k x) (ap (bit_steps k) (zero-mul x) ∙ steps_zero k ∙ sym (zero-mul (bit_steps k x)))
    (ap (bit_steps k) (one-mul x) ∙ sym (one-mul (bit_steps k x)))

-- what becomes of the highest bit, computed
abbrev pub far : ℕ
far = 0xd91e_81d8

top : bit_steps lane_bits (2 ^ 31) ≡ far
unfolding bit_steps bit_step added
top = refl

-- the bit at n, which is j below the highest
bit_at : (n j : ℕ) → n + j ≡ 31 → bit_steps lane_bits (2 ^ n) ≡ bit_steps j far
bit_at n j e =
    ap (bit_steps lane_bits) (sym (steps_shifted j (2 ^ n)) ∙ ap (bit_steps j) (sym (pow-add 2 n j) ∙ ap (λ (m : ℕ). 2 ^ m) e))
    ∙ sym (steps_add j lane_bits (2 ^ 31))
    ∙ ap (λ (k : ℕ). bit_steps k (2 ^ 31)) (add_comm j lane_bits)
    ∙ steps_add lane_bits j (2 ^ 31)
    ∙ ap (bit_steps j) top

-- where the loop over the bits is: sum is of those from n up, and k is for the next
abbrev pub Moving : ℕ → ℕ → ℕ → ℕ → Type 0
Moving x n sum k = (k ≡ bit_steps (32 - n) far) × (bit_steps lane_bits x ≡ bit_xor sum (bit_steps lane_bits (x % 2 ^ n)))

pub move_start : (x : ℕ) → x < 2 ^ 32 → Moving x 32 0 far
unfolding bit_steps
move_start x h = (refl, ap (bit_steps lane_bits) (sym (mod-eq_of_lt h)) ∙ sym (xor_zero_l (bit_steps lane_bits (x % 2 ^ 32))))

pub move_fits : (x n sum k i : ℕ) → Moving x n sum k → x / 2 ^ i % 2 * k < 2 ^ 32
move_fits x n sum k i (ek, e) = times_lt k (2 ^ 32) (subst (λ (y : ℕ). y < 2 ^ 32) (sym ek) (steps_lt (32 - n) far (lit< tt))) (x / 2 ^ i % 2) (mod-lt (x / 2 ^ i) (pow_pos 1))

pub move_turn : (x m n sum k s : ℕ) → n + 1 ≡ m → m ≤ 32 → s ≡ bit_step k → Moving x m sum k → Moving x n (bit_xor sum (x / 2 ^ n % 2 * k)) s
unfolding bit_steps
move_turn x m n sum k s em h es (ek, e) =
    let b : ℕ = x / 2 ^ n % 2 in
    let low : ℕ = x % 2 ^ n in
    let b_lt : b < 2 = mod-lt (x / 2 ^ n) (pow_pos 1) in
    let further : 32 - m + 1 ≡ 32 - n = omega arith in
    let bits : x % 2 ^ m ≡ bit_xor (b * 2 ^ n) low =
    ap (λ (i : ℕ). x % 2 ^ i) (sym em ∙ add_comm n 1) ∙ mod-pow-add x 1 n ∙ sym (xor_shifted b n low (mod-lt x (pow_pos n))) in
    let bit : bit_steps lane_bits (b * 2 ^ n) ≡ b * k = steps_times lane_bits (2 ^ n) b b_lt ∙ ap (λ (y : ℕ). b * y) (bit_at n (32 - m) (omega arith) ∙ sym ek) in (
      es ∙ ap bit_step ek ∙ sym (steps_add (32 - m) 1 far) ∙ ap (λ (j : ℕ). bit_steps j far) further,
      e
          ∙ ap (bit_xor sum) (ap (bit_steps lane_bits) bits ∙ steps_xor lane_bits (b * 2 ^ n) low ∙ ap (λ (y : ℕ). bit_xor y (bit_steps lane_bits low)) bit)
          ∙ sym (xor_assoc sum (b * k) (bit_steps lane_bits low)),
    )

pub move_end : (x n sum k : ℕ) → n ≡ 0 → Moving x n sum k → sum ≡ bit_steps lane_bits x
move_end x n sum k en (ek, e) =
    let none : x % 2 ^ n ≡ 0 = ap (λ (m : ℕ). x % 2 ^ m) en ∙ omega arith in
    sym (e ∙ ap (λ (y : ℕ). bit_xor sum (bit_steps lane_bits y)) none ∙ ap (bit_xor sum) (steps_zero lane_bits) ∙ xor_zero_r sum)
