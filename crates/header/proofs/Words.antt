-- Laws of numbers of four bytes that stand one after another, written and read. Assumes nothing.
use mathlib.Core.Path.{◌≡◌, refl, sym, ap, ap₂, ◌∙◌}
use mathlib.Core.List.{List, [], ◌∷◌, ◌++◌, append_assoc, append-nil}
use Prim.Native.Nat.{ℕ, zero, suc, ◌+◌, ◌-◌, ◌*◌, ◌^◌, ◌≤◌, ◌<◌}
use native.Mathlib.Nat.{le_of_suc-le-suc, not-suc-le-zero, add-zero}
use native.Mathlib.Numerals.{add-one}
use native.Mathlib.Omega.{arith}
use lib.Dec.{lit≤}
use lib.ListN.{length, get_or, take, drop, set, replicate, length-append, take-append-drop}
use lib.Seq.{length-take-le, take-suc, take_at, drop_at, drop-drop, set_at}
use Rattle.le.specs.Part.{part, over, zeros}
use Rattle.le.specs.Field.{le_number, le_bytes, get_le, put_le}
use Rattle.le.proofs.Parts.{over_over}
use Rattle.le.proofs.Fields.{length_bytes, get_put}
use Rattle.header.specs.Header.{words, numbers_at, crcs_of}

-- ---- written

pub length_words : (xs : List ℕ) → length (words xs) ≡ 4 * length xs
unfolding words
length_words [] = refl
length_words (x ∷ xs) = omega (arith, length-append (le_bytes 4 x) (words xs), length_bytes 4 x, length_words xs)

-- the first n of enough
pub length_first : (n : ℕ) (xs : List ℕ) → n ≤ length xs → length (words (take n xs)) ≡ 4 * n
length_first n xs h = length_words (take n xs) ∙ ap (λ (k : ℕ). 4 * k) (length-take-le n xs h)

words_snoc : (xs : List ℕ) (x : ℕ) → words (xs ++ (x ∷ [])) ≡ words xs ++ le_bytes 4 x
unfolding words
words_snoc [] x = append-nil (le_bytes 4 x)
words_snoc (y ∷ xs) x = ap (λ (r : List ℕ). le_bytes 4 y ++ r) (words_snoc xs x) ∙ sym (append_assoc (le_bytes 4 y) (words xs) (le_bytes 4 x))

-- none are written
pub words_start : (xs l : List ℕ) → l ≡ over 64 (words (take 0 xs)) l
unfolding words over
words_start xs l = sym (rw append-nil (take-append-drop 64 l))

-- and one more
pub words_more : (xs l s t : List ℕ) (k : ℕ) → k < length xs → 64 + 4 * k + 4 ≤ length l → s ≡ over 64 (words (take k xs)) l
    → t ≡ put_le 4 (64 + 4 * k) (get_or xs k 0) s → t ≡ over 64 (words (take (k + 1) xs)) l
unfolding put_le
words_more xs l s t k hk hl hs ht =
    let x : ℕ = get_or xs k 0 in
    let ws : List ℕ = words (take k xs) in
    let n : length ws ≡ 4 * k = length_first k xs (omega arith) in
    let m : length (le_bytes 4 x) ≡ 4 = length_bytes 4 x in
    let e : words (take (k + 1) xs) ≡ ws ++ le_bytes 4 x = rw (add-one, take-suc xs k 0 hk) (words_snoc (take k xs) x) in
    ht ∙ ap (λ (r : List ℕ). over (64 + 4 * k) (le_bytes 4 x) r) hs
    ∙ ap (λ (i : ℕ). over (64 + i) (le_bytes 4 x) (over 64 ws l)) (sym n)
    ∙ over_over 64 ws (le_bytes 4 x) l (omega arith)
    ∙ ap (λ (r : List ℕ). over 64 r l) (sym e)

-- ---- read

pub length_numbers : (n o : ℕ) (l : List ℕ) → length (numbers_at n o l) ≡ n
unfolding numbers_at
length_numbers zero o l = refl
length_numbers (suc n) o l = ap suc (length_numbers n (o + 4) l)

numbers_snoc : (n o : ℕ) (l : List ℕ) → numbers_at (suc n) o l ≡ numbers_at n o l ++ (get_le 4 (o + 4 * n) l ∷ [])
unfolding numbers_at
numbers_snoc zero o l = ap (λ (k : ℕ). get_le 4 k l ∷ []) (sym (add-zero o))
numbers_snoc (suc n) o l =
    let e : o + 4 + 4 * n ≡ o + 4 * suc n = omega arith in
    ap (λ (r : List ℕ). get_le 4 o l ∷ r) (numbers_snoc n (o + 4) l ∙ ap (λ (k : ℕ). numbers_at n (o + 4) l ++ (get_le 4 k l ∷ [])) e)

pub crcs_start : (l : List ℕ) → replicate 24 0 ≡ crcs_of 0 l
unfolding crcs_of numbers_at zeros
crcs_start l = refl

pub crcs_more : (l crcs : List ℕ) (k v : ℕ) → k < 24 → crcs ≡ crcs_of k l → v ≡ get_le 4 (64 + 4 * k) l → set crcs k v ≡ crcs_of (k + 1) l
unfolding crcs_of zeros
crcs_more l crcs k v hk hc hv =
    let z : 24 - k ≡ suc (24 - (k + 1)) = omega arith in
    rw (hc, z, set_at (numbers_at k 64 l) 0 (zeros (24 - (k + 1))) v k (length_numbers k 64 l), add-one k, numbers_snoc k 64 l, ← hv)
    (rw append_assoc)

-- ---- what was written is read

number_word : (x : ℕ) → x < 2 ^ 32 → le_number (le_bytes 4 x) ≡ x
unfolding get_le put_le part over le_bytes zeros
number_word x h = get_put 4 0 x (zeros 4) (lit≤ tt) h

pub numbers_words : (n o : ℕ) (xs rest l : List ℕ) → n ≤ length xs → ((i : ℕ) → get_or xs i 0 < 2 ^ 32) → drop o l ≡ words (take n xs) ++ rest
    → numbers_at n o l ≡ take n xs
unfolding numbers_at words get_le part
numbers_words zero o xs rest l h small e = refl
numbers_words (suc n) o [] rest l h small e = absurd (not-suc-le-zero h)
numbers_words (suc n) o (x ∷ xs) rest l h small e =
    let f : drop o l ≡ le_bytes 4 x ++ (words (take n xs) ++ rest) = e ∙ append_assoc (le_bytes 4 x) (words (take n xs)) rest in
    let a : le_number (take 4 (drop o l)) ≡ x = rw (f, take_at (le_bytes 4 x) (words (take n xs) ++ rest) 4 (length_bytes 4 x)) (number_word x (small 0)) in
    let b : drop (o + 4) l ≡ words (take n xs) ++ rest = sym (drop-drop 4 o l) ∙ rw f (drop_at (le_bytes 4 x) (words (take n xs) ++ rest) 4 (length_bytes 4 x)) in
    ap₂ (λ (y : ℕ) (ys : List ℕ). y ∷ ys) a (numbers_words n (o + 4) xs rest l (le_of_suc-le-suc h) (λ i. small (suc i)) b)
