-- Lists of payloads, chunk by chunk: what is left to be read from a place, what of it stands below a record number, and the number of the end.
-- Assumes nothing.
use mathlib.Core.Path.{◌≡◌, refl}
use mathlib.Core.List.{List, [], ◌∷◌, ◌++◌}
use Prim.Native.Nat.{ℕ, zero, suc, ◌+◌, ◌-◌, ◌*◌, ◌≤◌, ◌<◌}
use native.Mathlib.Nat.{add-mul, one-mul, zero-mul}
use native.Mathlib.Numerals.{add-one}
use native.Mathlib.Omega.{arith}
use lib.ListN.{length, get_or, take, drop, length-take, drop_of_length-le}
use lib.Seq.{drop-cons, drop-length, get_or-take}
use Rattle.layout.specs.Segments.{Segment, no_segment, segment_at, payloads_of}
use Rattle.reading.specs.Below.{Parts, parts_of, end_number, below}

-- ---- what is still to be read from record i of the chunk at position p

abbrev pub rest : List Segment → ℕ → ℕ → List (List ℕ)
rest g p i = drop i (segment_at g p).payloads ++ payloads_of (drop (p + 1) g)

drop_step : {A : Type 0} (l : List A) (j : ℕ) (d : A) → j < length l → drop j l ≡ get_or l j d ∷ drop (j + 1) l
drop_step l j d h = rw add-one (drop-cons l j d h)

pub rest_here : (g : List Segment) (p i : ℕ) → i < length (segment_at g p).payloads → rest g p i ≡ get_or (segment_at g p).payloads i [] ∷ rest g p (i + 1)
rest_here g p i h = rw (drop_step (segment_at g p).payloads i [] h)

pub rest_next : (g : List Segment) (p : ℕ) → p + 1 < length g → rest g p (length (segment_at g p).payloads) ≡ rest g (p + 1) 0
rest_next g p h = rw (drop-length (segment_at g p).payloads, drop_step g (p + 1) no_segment h)

pub rest_end : (g : List Segment) (p : ℕ) → p + 1 ≡ length g → rest g p (length (segment_at g p).payloads) ≡ []
rest_end g p h = rw (h, drop-length g, drop-length (segment_at g p).payloads)

pub rest_all : (g : List Segment) → 1 ≤ length g → rest g 0 0 ≡ payloads_of g
rest_all [] h = absurd (omega arith)
rest_all (x ∷ g) h = refl

-- ---- where it ends: behind the last record of the last chunk

pub end_number_lem : (size : ℕ) (g : List Segment) (p : ℕ) → p + 1 ≡ length g → end_number size (parts_of g) ≡ p * size + length (segment_at g p).payloads
unfolding end_number
end_number_lem size [] p h = absurd (omega arith)
end_number_lem size (y ∷ []) zero h = rw zero-mul (omega arith)
end_number_lem size (y ∷ []) (suc p) h = absurd (omega arith)
end_number_lem size (y ∷ z ∷ g) zero h = absurd (omega arith)
end_number_lem size (y ∷ z ∷ g) (suc p) h =
    let e : suc p * size ≡ p * size + size = rw (← add-one p, add-mul, one-mul) in
    let i : end_number size (parts_of (z ∷ g)) ≡ p * size + length (segment_at (z ∷ g) p).payloads = end_number_lem size (z ∷ g) p (omega arith) in
    rw (i, e) (go (p * size) (length (segment_at (z ∷ g) p).payloads))
  where
    go : (b n : ℕ) → size + (b + n) ≡ b + size + n
    go b n = omega arith

-- ---- what of it stands below a number

pub below_none : (size : ℕ) (ps : Parts) → below size 0 ps ≡ []
unfolding below
below_none size [] = refl
below_none size (p ∷ ps) = let z : 0 - size ≡ 0 = omega arith in rw z (below_none size ps)

module _ {A : Type 0} (l : List A) (i n : ℕ) where
  taken_none : length (take n l) ≤ i → drop i (take n l) ≡ []
  taken_none h = drop_of_length-le (take n l) {i = i} h

  taken_past : n ≤ i → drop i (take n l) ≡ []
  taken_past h = taken_none (rw (length-take n l) (omega arith))

  taken_all : length l ≤ i → drop i (take n l) ≡ []
  taken_all h = taken_none (rw (length-take n l) (omega arith))

  taken_here : (d : A) → i < length l → i < n → drop i (take n l) ≡ get_or l i d ∷ drop (i + 1) (take n l)
  taken_here d h k =
      let m : i < length (take n l) = rw (length-take n l) (omega arith) in
      rw (drop_step (take n l) i d m, get_or-take n l i d k)

-- as rest, below the limit, of which `left` numbers are left from the chunk's first on
abbrev pub rest_below : ℕ → ℕ → List Segment → ℕ → ℕ → List (List ℕ)
rest_below size left g p i = drop i (take left (segment_at g p).payloads) ++ below size (left - size) (parts_of (drop (p + 1) g))

module _ (size limit : ℕ) (g : List Segment) where
  abbrev left : ℕ → ℕ
  left p = limit - p * size

  abbrev count : ℕ → ℕ
  count p = length (segment_at g p).payloads

  abbrev until : ℕ → ℕ → List (List ℕ)
  until p i = rest_below size (left p) g p i

  left_next : (p : ℕ) → left (p + 1) ≡ left p - size
  left_next p = let e : (p + 1) * size ≡ p * size + size = rw (add-mul, one-mul) in rw e (go (p * size))
    where
      go : (b : ℕ) → limit - (b + size) ≡ limit - b - size
      go b = omega arith

  pub until_past : (p i : ℕ) → i ≤ size → left p ≤ i → until p i ≡ []
  until_past p i h k =
      let z : left p - size ≡ 0 = omega (arith, h, k) in
      rw (taken_past (segment_at g p).payloads i (left p) k, z) (below_none size (parts_of (drop (p + 1) g)))

  pub until_here : (p i : ℕ) → i < count p → i < left p → until p i ≡ get_or (segment_at g p).payloads i [] ∷ until p (i + 1)
  until_here p i h k = rw (taken_here (segment_at g p).payloads i (left p) [] h k)

  pub until_next : (p : ℕ) → p + 1 < length g → until p (count p) ≡ until (p + 1) 0
  unfolding below
  until_next p h = rw (taken_all (segment_at g p).payloads (count p) (left p) (omega arith), left_next p, drop_step g (p + 1) no_segment h)

  pub until_end : (p : ℕ) → p + 1 ≡ length g → until p (count p) ≡ []
  unfolding below
  until_end p h = rw (taken_all (segment_at g p).payloads (count p) (left p) (omega arith), h, drop-length g)

-- all of it, from the file's start
pub until_all : (size limit : ℕ) (g : List Segment) → 1 ≤ length g → rest_below size (limit - 0 * size) g 0 0 ≡ below size limit (parts_of g)
unfolding below
until_all size limit [] h = absurd (omega arith)
until_all size limit (y ∷ g) h = let z : limit - 0 * size ≡ limit = rw zero-mul (omega arith) in rw z refl
