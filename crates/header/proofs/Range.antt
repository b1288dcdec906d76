-- What a sector that decodes as a valid copy gives: a header that is not foreign, whose numbers have their widths. Assumes nothing.
use mathlib.Core.Path.{◌≡◌, refl, sym, ap, ◌∙◌}
use mathlib.Core.Bool.{Bool, true, false, ◌&&◌, false≢true}
use mathlib.Core.List.{List, [], ◌∷◌, ◌++◌}
use Prim.Native.Nat.{ℕ, zero, suc, ◌+◌, ◌-◌, ◌*◌, ◌^◌, ◌≤◌, ◌<◌}
use native.Mathlib.Nat.{le_of_suc-le-suc, not-suc-le-zero}
use native.Mathlib.Omega.{arith}
use lib.Dec.{lit<}
use lib.ListN.{length, get_or, take, drop, length-append}
use lib.Seq.{get_or-drop}
use Rattle.le.specs.Choice.{pick}
use Rattle.le.specs.Part.{part, zeros}
use Rattle.le.specs.Field.{get_le}
use Rattle.le.proofs.Parts.{length_part, length_zeros, get_or_zeros}
use Rattle.le.proofs.Fields.{number_lt}
use Rattle.le.proofs.Bools.{and_true}
use Rattle.runs.specs.Run.{starts_with}
use Rattle.seal.specs.Seal.{is_sealed}
use Rattle.handles.specs.declared.Header.{Header}
use Rattle.handles.specs.Handles.{body_of, sane_of}
use Rattle.handles.proofs.Laws.{sane_facts}
use Rattle.header.specs.declared.codec.Decoded.{Decoded}
use Rattle.header.specs.declared.codec.Replica.TheVariants.{Foreign, Damaged, Absent}
use Rattle.header.specs.Header.{magic, fixed_ok, numbers_at, crcs_of, head_of, ours, bare, decode_of, Bytes, InRange}
use Rattle.header.specs.Copies.{is_ours}
use Rattle.header.proofs.Words.{length_numbers}

-- ---- a field of bytes fits its width

bytes_take : (n : ℕ) (l : List ℕ) → Bytes l → Bytes (take n l)
bytes_take zero l small i = lit< tt
bytes_take (suc n) [] small i = lit< tt
bytes_take (suc n) (x ∷ l) small zero = small 0
bytes_take (suc n) (x ∷ l) small (suc i) = bytes_take n l (λ j. small (suc j)) i

pub bytes_part : (o n : ℕ) (l : List ℕ) → Bytes l → Bytes (part o n l)
unfolding part
bytes_part o n l small = bytes_take n (drop o l) (λ i. rw get_or-drop (small (o + i)))

module _ (n o : ℕ) (l : List ℕ) (fits : o + n ≤ length l) (small : Bytes l) where
  get_lt : get_le n o l < 256 ^ n
  unfolding get_le
  get_lt = rw (length_part o n l fits) at (number_lt (part o n l) (bytes_part o n l small))

-- ---- the checksums read, and zeros after them

numbers_lt : (n o m : ℕ) (l : List ℕ) → o + 4 * n ≤ length l → Bytes l → (i : ℕ) → get_or (numbers_at n o l ++ zeros m) i 0 < 2 ^ 32
unfolding numbers_at
numbers_lt zero o m l fits small i = rw (get_or_zeros m i) (lit< tt)
numbers_lt (suc n) o m l fits small zero = get_lt 4 o l (omega arith) small
numbers_lt (suc n) o m l fits small (suc i) = numbers_lt n (o + 4) m l (omega arith) small i

numbers_past : (n o m : ℕ) (l : List ℕ) (i : ℕ) → n ≤ i → get_or (numbers_at n o l ++ zeros m) i 0 ≡ 0
unfolding numbers_at
numbers_past zero o m l i h = get_or_zeros m i
numbers_past (suc n) o m l zero h = absurd (not-suc-le-zero h)
numbers_past (suc n) o m l (suc i) h = numbers_past n (o + 4) m l i (le_of_suc-le-suc h)

head_range : (l : List ℕ) (sectors : ℕ) → length l ≡ 512 → Bytes l → sane_of (head_of l) sectors ≡ true → InRange (head_of l)
unfolding head_of crcs_of
head_range l sectors size small e =
    let most : get_le 4 48 l ≤ 2048 = (sane_facts (head_of l) sectors e).chunks_most in
    let b : ℕ = body_of (get_le 4 48 l) in
    record {
      id = get_lt 8 24 l (omega arith) small;
      generation = get_lt 8 32 l (omega arith) small;
      next = get_lt 4 40 l (omega arith) small;
      cursor = get_lt 4 44 l (omega arith) small;
      chunks = get_lt 4 48 l (omega arith) small;
      chunk = get_lt 4 52 l (omega arith) small;
      count = length-append (numbers_at b 64 l) (zeros (24 - b)) ∙ rw (length_numbers b 64 l, length_zeros (24 - b)) (omega arith);
      crcs = numbers_lt b 64 (24 - b) l (omega arith) small;
      past = numbers_past b 64 (24 - b) l;
    }

-- ---- the one way to a valid copy

pub no_way : {A : Type 0} → false ≡ true → A
no_way e = absurd (false≢true e)

chosen : (a b c : Bool) (x : Header) → is_ours (pick a (pick b (pick c (ours x) (bare Foreign)) (bare Damaged)) (bare Absent)).kind ≡ true
    → (pick a (pick b (pick c (ours x) (bare Foreign)) (bare Damaged)) (bare Absent) ≡ ours x) × (c ≡ true)
unfolding pick
chosen true true true x e = (refl, refl)
chosen true true false x e = no_way e
chosen true false c x e = no_way e
chosen false b c x e = no_way e

pub valid : (l : List ℕ) (sectors : ℕ) → is_ours (decode_of l sectors).kind ≡ true → (decode_of l sectors ≡ ours (head_of l)) × (sane_of (head_of l) sectors ≡ true)
unfolding decode_of
valid l sectors e =
    let t = chosen (starts_with magic l) (is_sealed l) (sane_of (head_of l) sectors && fixed_ok l (get_le 4 48 l)) (head_of l) e in
    (t.0, (and_true _ _ t.1).0)

pub decode_range : (l : List ℕ) (sectors : ℕ) (h : Header) → length l ≡ 512 → Bytes l → decode_of l sectors ≡ ours h → (sane_of h sectors ≡ true) × InRange h
decode_range l sectors h size small e =
    let t = valid l sectors (ap (λ (d : Decoded). is_ours d.kind) e) in
    let s : head_of l ≡ h = ap (λ (d : Decoded). d.head) (sym t.0 ∙ e) in
    (rw s at t.1, rw s at (head_range l sectors size small t.1))
