-- The sector of a record, and what the functions' answers are, over plain values. Assumes nothing.
use Rattle.std.specs.Prelude.{Option, Some, None, Result, Ok, Err}
use mathlib.Core.Path.{◌≡◌, refl, sym, ap, ◌∙◌}
use mathlib.Core.List.{List, ◌++◌}
use Prim.Native.Nat.{ℕ, ◌+◌, ◌-◌, ◌*◌, ◌/◌, ◌%◌, ◌^◌, ◌≤◌, ◌<◌}
use native.Mathlib.Nat.{mul-le-mul}
use native.Mathlib.Omega.{arith}
use lib.Arith.{digits_lt, digits_div, digits_mod}
use lib.ListN.{length}
use Rattle.le.specs.Part.{over, zeros}
use Rattle.le.specs.Field.{put_le}
use Rattle.le.proofs.Parts.{length_zeros, over_over, over_whole}
use Rattle.seal.specs.Seal.{sealed}
use Rattle.medium.specs.declared.Error.{Error}
use Rattle.handles.specs.declared.Store.{Store}
use Rattle.record.specs.Record.{mark, unsealed_of, record_of, on_judged, on_result, data_at, number_at}

-- ---- a judged record

pub on_judged_keeps : {A : Type 0} (P : A → Type 0) (j : Result (Option ℕ) Error) (f : Error → A) (g : ℕ → A) (a : A) → ((e : Error) → P (f e)) → ((n : ℕ) → j ≡ Ok (Some n) → P (g n))
    → (j ≡ Ok None → P a) → P (on_judged j f g a)
unfolding on_judged
on_judged_keeps P (Err e) f g a p q r = p e
on_judged_keeps P (Ok (Some n)) f g a p q r = q n refl
on_judged_keeps P (Ok None) f g a p q r = r refl

-- ---- a value that may be refused

pub on_result_keeps : {A B : Type 0} (P : A → Type 0) (r : Result B Error) (f : Error → A) (g : B → A) → ((e : Error) → r ≡ Err e → P (f e)) → ((b : B) → r ≡ Ok b → P (g b))
    → P (on_result r f g)
unfolding on_result
on_result_keeps P (Err e) f g p q = p e refl
on_result_keeps P (Ok b) f g p q = q b refl

-- ---- the place of a record: chunk × size + index

pub data_fits : (a b i : ℕ) → a < 2 ^ 32 → b < 2 ^ 32 → i < 2 ^ 32 → 64 + a * b + i < 2 ^ 64
data_fits a b i ha hb hi =
    let p : a * b ≤ (2 ^ 32 - 1) * (2 ^ 32 - 1) = mul-le-mul {n₂ = 2 ^ 32 - 1} {m₂ = 2 ^ 32 - 1} (omega arith) (omega arith) in
    omega arith

-- the sector is inside a volume that holds the chunks
pub data_inside : (st : Store) (chunk index sectors : ℕ) → chunk < st.head.chunks → index < st.head.chunk → 64 + st.head.chunks * st.head.chunk ≤ sectors
    → data_at st chunk index < sectors
unfolding data_at
data_inside st chunk index sectors hc hi room =
    let p : chunk * st.head.chunk + index < st.head.chunks * st.head.chunk = digits_lt hc hi in
    omega arith

-- one place, one chunk and index
place_one : (size a i b j : ℕ) → i < size → j < size → a * size + i ≡ b * size + j → (a ≡ b) × (i ≡ j)
place_one size a i b j hi hj e =
    (sym (digits_div a hi) ∙ ap (λ (x : ℕ). x / size) e ∙ digits_div b hj, sym (digits_mod a hi) ∙ ap (λ (x : ℕ). x % size) e ∙ digits_mod b hj)

pub data_one : (st : Store) (a i b j : ℕ) → i < st.head.chunk → j < st.head.chunk → data_at st a i ≡ data_at st b j → (a ≡ b) × (i ≡ j)
unfolding data_at
data_one st a i b j hi hj e =
    let p : a * st.head.chunk + i ≡ b * st.head.chunk + j = omega arith in
    place_one st.head.chunk a i b j hi hj p

pub number_one : (size a i b j : ℕ) → i < size → j < size → number_at a size i ≡ number_at b size j → (a ≡ b) × (i ≡ j)
unfolding number_at
number_one size a i b j hi hj e = place_one size a i b j hi hj e

-- the number of a record fits 32 bits
pub number_small : (position size index : ℕ) → position ≤ 32767 → size ≤ 512 → index ≤ 512 → position * size + index < 2 ^ 32
number_small position size index p s i =
    let q : position * size ≤ 32767 * 512 = mul-le-mul p s in
    omega arith

-- ---- a sector filled

marked : (l : List ℕ) → length l ≡ 512 → over 4 (zeros 508) (over 0 mark l) ≡ mark ++ zeros 508
marked l e =
    let n : length {A = ℕ} (zeros 508) ≡ 508 = length_zeros 508 in
    over_over 0 mark (zeros 508) l (omega arith) ∙ over_whole (mark ++ zeros 508) l (omega arith)

-- the mark, zeros, the fields, the payload and the checksum, put one after the other
pub record_made : (id file number : ℕ) (payload l : List ℕ) {a b u v w x y z : List ℕ} → length l ≡ 512 → a ≡ over 0 mark l → b ≡ over 4 (zeros 508) a
    → u ≡ put_le 2 20 (length payload) b → v ≡ put_le 4 16 number u → w ≡ put_le 4 12 file v → x ≡ put_le 8 4 id w → y ≡ over 22 payload x → z ≡ sealed y
    → z ≡ record_of id file number payload
unfolding record_of unsealed_of
record_made id file number payload l h ea eb eu ev ew ex ey ez = rw (ez, ey, ex, ew, ev, eu, eb, ea, marked l h)
