-- Laws of a part of a list and of a part replaced. Assumes nothing.
use mathlib.Core.Path.{◌≡◌, refl, sym, ap, ap₂, ◌∙◌, subst}
use Prim.Native.Nat.{ℕ, zero, suc, ◌+◌, ◌-◌, ◌≤◌}
use native.Mathlib.Nat.{add_assoc, zero-add}
use native.Mathlib.Omega.{arith}
use mathlib.Core.List.{List, [], ◌∷◌, ◌++◌, append_assoc, append-nil}
use lib.ListN.{length, get_or, take, drop, replicate, length-append, length-take, length-drop, length-replicate}
use lib.Seq.{length-take-le, take_at, drop_at, drop-length, take-append_seam, take-take, drop-drop, take-add}
use Rattle.le.specs.Part.{part, over, zeros}

pub length_part : (o n : ℕ) (l : List ℕ) → o + n ≤ length l → length (part o n l) ≡ n
unfolding part
length_part o n l h = simp (length-take, length-drop) (omega arith)

-- ---- a part of a part

-- what lies before o does not see what lies after
before : (j m o : ℕ) (l : List ℕ) → j + m ≤ o → take m (drop j (take o l)) ≡ take m (drop j l)
before zero m o l h = take-take m o l (omega arith)
before (suc j) m zero l h = absurd (omega arith)
before (suc j) m (suc o) [] h = refl
before (suc j) m (suc o) (x ∷ xs) h = before j m o xs (omega arith)

pub part_add : (o m n : ℕ) (l : List ℕ) → part o (m + n) l ≡ part o m l ++ part (o + m) n l
unfolding part
part_add o m n l = take-add m n (drop o l) ∙ ap (λ (r : List ℕ). take m (drop o l) ++ take n r) (drop-drop m o l)

-- a part of a part is a part
pub part_part : (a n b m : ℕ) (l : List ℕ) → b + m ≤ n → part b m (part a n l) ≡ part (a + b) m l
unfolding part
part_part a n b m l h = before b m n (drop a l) h ∙ ap (take m) (drop-drop b a l)

pub length_zeros : (n : ℕ) → length (zeros n) ≡ n
unfolding zeros
length_zeros n = length-replicate n 0

-- inside them or past them
pub get_or_zeros : (n i : ℕ) → get_or (zeros n) i 0 ≡ 0
unfolding zeros
get_or_zeros zero i = refl
get_or_zeros (suc n) zero = refl
get_or_zeros (suc n) (suc i) = get_or_zeros n i

take_zeros : (n k : ℕ) → n ≤ k → take {A = ℕ} n (replicate k 0) ≡ replicate n 0
take_zeros zero k h = refl
take_zeros (suc n) zero h = absurd (omega arith)
take_zeros (suc n) (suc k) h = ap (λ (l : List ℕ). 0 ∷ l) (take_zeros n k (omega arith))

-- a part of zeros is zeros
pub part_zeros : (o n k : ℕ) → o + n ≤ k → part o n (zeros k) ≡ zeros n
unfolding part zeros
part_zeros zero n k h = take_zeros n k (omega arith)
part_zeros (suc o) n zero h = absurd (omega arith)
part_zeros (suc o) n (suc k) h = part_zeros o n k (omega arith)

-- ---- a part replaced

module _ (o : ℕ) (vs l : List ℕ) (fits : o + length vs ≤ length l) where
  head_length : length (take o l ++ vs) ≡ o + length vs
  head_length = simp (length-append, length-take) (omega arith)

  pub length_over : length (over o vs l) ≡ length l
  unfolding over
  length_over = simp (length-append, length-take, length-drop) (omega arith)

  pub take_over : take o (over o vs l) ≡ take o l
  unfolding over
  take_over = rw append_assoc (take_at (take o l) _ o (length-take-le o l (omega arith)))

  pub drop_over : drop (o + length vs) (over o vs l) ≡ drop (o + length vs) l
  unfolding over
  drop_over = drop_at (take o l ++ vs) _ (o + length vs) head_length

  -- what was written is there
  pub part_over : part o (length vs) (over o vs l) ≡ vs
  unfolding over part
  part_over =
      ap (λ (r : List ℕ). take (length vs) (drop o r)) (append_assoc (take o l) vs (drop (o + length vs) l))
      ∙ ap (take (length vs)) (drop_at (take o l) (vs ++ drop (o + length vs) l) o (length-take-le o l (omega arith)))
      ∙ take-append_seam vs _

  -- what lies before is as it was
  pub part_before : (j m : ℕ) → j + m ≤ o → part j m (over o vs l) ≡ part j m l
  unfolding part
  part_before j m h = sym (before j m o (over o vs l) h) ∙ ap (λ (r : List ℕ). take m (drop j r)) take_over ∙ before j m o l h

  -- and so is what lies after
  pub part_after : (j m : ℕ) → o + length vs ≤ j → part j m (over o vs l) ≡ part j m l
  unfolding part
  part_after j m h =
      let e : o + length vs + (j - (o + length vs)) ≡ j = omega arith in
      ap (take m)
      (subst (λ (k : ℕ). drop k (over o vs l) ≡ drop k l) e
      (sym (drop-drop (j - (o + length vs)) (o + length vs) (over o vs l)) ∙ ap (drop (j - (o + length vs))) drop_over ∙ drop-drop (j - (o + length vs)) (o + length vs) l))

-- all of a list replaced
pub over_whole : (vs l : List ℕ) → length vs ≡ length l → over 0 vs l ≡ vs
unfolding over
over_whole vs l e = rw (zero-add, e, drop-length) (append-nil vs)

-- zeros written from the start on
pub over_zeros : (n : ℕ) (l : List ℕ) → over 0 (zeros n) l ≡ zeros n ++ drop n l
unfolding over
over_zeros n l = rw (zero-add, length_zeros n)

-- two parts that meet are one
pub over_over : (o : ℕ) (vs ws l : List ℕ) → o + length vs + length ws ≤ length l → over (o + length vs) ws (over o vs l) ≡ over o (vs ++ ws) l
unfolding over
over_over o vs ws l h =
    let k : ℕ = o + length vs in
    let p : List ℕ = take o l ++ vs in
    let lp : length p ≡ k = head_length o vs l (omega arith) in
    ap₂ (λ (q r : List ℕ). q ++ ws ++ r)
    (take_at p (drop k l) k lp)
    (sym (drop-drop (length ws) k (p ++ drop k l)) ∙ ap (drop (length ws)) (drop_at p (drop k l) k lp) ∙ drop-drop (length ws) k l)
    ∙ ap₂ (λ (q : List ℕ) (r : ℕ). q ++ drop r l) (append_assoc (take o l) vs ws) (add_assoc o (length vs) (length ws) ∙ ap (λ (r : ℕ). o + r) (sym (length-append vs ws)))

-- a part lent as `&mut l[a..e]` comes back so: it is the list with the part written over
pub over_back : (a e : ℕ) (vs l : List ℕ) → length vs ≡ e - a → take a l ++ (vs ++ drop (e - a) (drop a l)) ≡ over a vs l
unfolding over
over_back a e vs l h = rw (← h, drop-drop (length vs) a l, ← append_assoc (take a l) vs (drop (a + length vs) l))
