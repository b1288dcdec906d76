-- Why the sums of lanes, put together, are the sum of all the bytes: what stands before a lane only moves over it, and the lane adds what it makes of 0
-- (Steps `from_split`). Assumes nothing.
use mathlib.Core.Path.{◌≡◌, sym, ap, ap₂, ◌∙◌}
use mathlib.Core.List.{List, [], ◌∷◌}
use Prim.Native.Nat.{ℕ, suc, ◌+◌, ◌*◌, ◌<◌, ◌≤◌}
use native.Mathlib.Numerals.{add-one}
use native.Mathlib.Omega.{arith}
use lib.Bits.{bit_xor, xor_zero_r}
use borrow.Author.Count.{below_more}
use lib.ListN.{length, get_or, set, take, drop, replicate, length-drop, take-append-drop, drop_of_length-le}
use lib.Seq.{take_all, take-suc, take-add, get_or-drop, drop-drop, drop-cons, get_or-set_same, get_or-set_other}
use Rattle.checksum.specs.Crc.{bit_steps, byte_step, crc_from}
use Rattle.checksum.specs.Lanes.{lane_bits, joined}
use Rattle.std.specs.Int.Bits.{xor_assoc}
use Rattle.checksum.proofs.Steps.{steps_xor, steps_add, from_append, from_split}

-- one byte more of the bytes from o on: the byte at `at`
pub byte_after : (c o i at s r : ℕ) (l : List ℕ) → at ≡ o + i → at < length l → s ≡ crc_from c (take i (drop o l)) → r ≡ byte_step s (get_or l at 0)
    → r ≡ crc_from c (take (i + 1) (drop o l))
unfolding crc_from
byte_after c o i at s r l ea h es er =
    let p : List ℕ = drop o l in
    let inside : i < length p = simp length-drop (omega arith) in
    let here : get_or l at 0 ≡ get_or p i 0 = ap (λ (k : ℕ). get_or l k 0) ea ∙ sym (get_or-drop o l i 0) in
    er
    ∙ ap₂ byte_step es here
    ∙ sym (from_append c (take i p) (get_or p i 0 ∷ []))
    ∙ ap (crc_from c) (sym (take-suc p i 0 inside) ∙ ap (λ (k : ℕ). take k p) (sym (add-one i)))

-- the first n bytes, and then what is left
pub part_first : (c n : ℕ) (l : List ℕ) → crc_from (crc_from c (take n l)) (drop n l) ≡ crc_from c l
part_first c n l = sym (from_append c (take n l) (drop n l)) ∙ ap (crc_from c) (take-append-drop n l)

-- a part of n bytes after the first ones, up to e
pub part_after : (c s r at n e : ℕ) (l : List ℕ) → at + n ≡ e → s ≡ crc_from c (take at l) → r ≡ crc_from s (take n (drop at l)) → r ≡ crc_from c (take e l)
part_after c s r at n e l ee es er =
    er
    ∙ ap (λ (x : ℕ). crc_from x (take n (drop at l))) es
    ∙ sym (from_append c (take at l) (take n (drop at l)))
    ∙ ap (crc_from c) (sym (take-add at n l) ∙ ap (λ (k : ℕ). take k l) ee)

-- ---- the lanes of a block

-- one lane more has its byte: the first j have, the others are as they were
pub lane_done : (f : ℕ → ℕ) (old now : List ℕ) (j v : ℕ) → j < length now → v ≡ f j → ((k : ℕ) → k < j → get_or now k 0 ≡ f k)
    → ((k : ℕ) → j ≤ k → get_or now k 0 ≡ get_or old k 0)
    → ((k : ℕ) → k < j + 1 → get_or (set now j v) k 0 ≡ f k) × ((k : ℕ) → j + 1 ≤ k → get_or (set now j v) k 0 ≡ get_or old k 0)
lane_done f old now j v h ev below above = (
  below_more (λ (k : ℕ). get_or (set now j v) k 0 ≡ f k) j (λ k hk. get_or-set_other now j k v 0 (λ e. omega arith) ∙ below k hk) (get_or-set_same now j v 0 h ∙ ev),
  λ k hk. get_or-set_other now j k v 0 (λ e. omega arith) ∙ above k (omega arith),
)

-- a lane goes before others
lane_before : (c x : ℕ) (xs l : List ℕ) → length l ≡ 63 * suc (length xs) → x ≡ crc_from c (take 63 l) → joined xs ≡ crc_from 0 (drop 63 l)
    → joined (x ∷ xs) ≡ crc_from c l
unfolding joined
lane_before c x xs l h ex exs =
    let bits : lane_bits * length xs ≡ 8 * length (drop 63 l) = simp length-drop (omega arith) in
    ap₂ bit_xor (ap₂ bit_steps bits ex) exs ∙ sym (from_split c (take 63 l) (drop 63 l)) ∙ ap (crc_from c) (take-append-drop 63 l)

-- the sum of each lane, the first from c and the others from 0, put together
lanes_sum : (c x : ℕ) (xs l : List ℕ) → length l ≡ 63 * suc (length xs)
    → ((j : ℕ) → j < suc (length xs) → get_or (x ∷ xs) j 0 ≡ crc_from (get_or (c ∷ replicate (length xs) 0) j 0) (take 63 (drop (63 * j) l)))
    → joined (x ∷ xs) ≡ crc_from c l
unfolding joined crc_from
lanes_sum c x [] l h each = lane_before c x [] l h (each 0 (omega arith)) (ap (crc_from 0) (sym (drop_of_length-le l {i = 63} (omega arith))))
lanes_sum c x (y ∷ ys) l h each =
    let rest : length (drop 63 l) ≡ 63 * suc (length ys) = simp length-drop (omega arith) in
    let next : (j : ℕ) → 63 * suc j ≡ 63 + 63 * j = λ j. omega arith in
    let after : (j : ℕ) → drop (63 * suc j) l ≡ drop (63 * j) (drop 63 l) = λ j. ap (λ (o : ℕ). drop o l) (next j) ∙ sym (drop-drop (63 * j) 63 l) in
    lane_before c x (y ∷ ys) l h (each 0 (omega arith))
    (lanes_sum 0 y ys (drop 63 l) rest
    (λ j hj. each (suc j) (omega arith) ∙ ap (λ (m : List ℕ). crc_from (get_or (0 ∷ replicate (length ys) 0) j 0) (take 63 m)) (after j)))

-- the block's end: every lane has its 63 bytes
pub lanes_end : (c i : ℕ) (xs l : List ℕ) → length xs ≡ 8 → length l ≡ 504 → i ≡ 63
    → ((j : ℕ) → j < 8 → get_or xs j 0 ≡ crc_from (get_or (c ∷ replicate 7 0) j 0) (take i (drop (63 * j) l))) → joined xs ≡ crc_from c l
lanes_end c i [] l hx hl ei each = absurd (omega arith)
lanes_end c i (x ∷ xs) l hx hl ei each =
    let seven : length xs ≡ 7 = omega arith in
    lanes_sum c x xs l (omega arith)
    (λ j hj. each j (omega arith) ∙ ap₂ (λ (n k : ℕ). crc_from (get_or (c ∷ replicate n 0) j 0) (take k (drop (63 * j) l))) (sym seven) ei)

-- ---- the loop over the lanes: c stands for those before j

pub join_turn : (xs : List ℕ) (j c m : ℕ) → j < length xs → m ≡ bit_steps lane_bits c → joined (bit_xor m (get_or xs j 0) ∷ drop (j + 1) xs) ≡ joined (c ∷ drop j xs)
unfolding joined
join_turn xs j c m h em =
    let x : ℕ = get_or xs j 0 in
    let after : List ℕ = drop (suc j) xs in
    let n : ℕ = lane_bits * length after in
    let longer : lane_bits + n ≡ lane_bits * suc (length after) = omega arith in
    rw (add-one, drop-cons xs j 0 h, em)
    (ap (λ (y : ℕ). bit_xor y (joined after)) (steps_xor n (bit_steps lane_bits c) x ∙ ap (λ (y : ℕ). bit_xor y (bit_steps n x)) (sym (steps_add lane_bits n c) ∙ ap (λ (k : ℕ). bit_steps k c) longer))
    ∙ xor_assoc (bit_steps (lane_bits * suc (length after)) c) (bit_steps n x) (joined after))

pub join_end : (xs : List ℕ) (c j v : ℕ) → length xs ≤ j → joined (c ∷ drop j xs) ≡ v → c ≡ v
unfolding joined bit_steps
join_end xs c j v h e = sym (ap (λ (l : List ℕ). joined (c ∷ l)) (drop_of_length-le xs h) ∙ xor_zero_r c) ∙ e
