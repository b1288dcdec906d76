-- The line of a point is read back, no other record is read as it, and it says nothing of another name. Assumes nothing.
use Prim.Native.Nat.{ℕ, suc, ◌+◌, ◌-◌, ◌≤◌, ◌<◌}
use mathlib.Core.Path.{◌≡◌, refl, sym, ap, ◌∙◌}
use mathlib.Core.Bool.{Bool, true, false, false≢true}
use mathlib.Core.List.{List, [], ◌∷◌, ◌++◌, append_assoc}
use native.Mathlib.Omega.{arith}
use borrow.Author.Tests.{eqb-true, eqb-false}
use lib.Dec.{eqb}
use lib.ListN.{length, get_or, take, length-append}
use lib.Seq.{take_all, take-suc}
use Rattle.std.specs.Prelude.{Option, Some, None}
use Rattle.le.specs.Choice.{pick}
use Rattle.le.proofs.Bools.{and_true}
use Rattle.runs.specs.Run.{same_bytes}
use Rattle.runs.specs.Split.{split_at}
use Rattle.runs.proofs.Splits.{len_on}
use Rattle.runs.proofs.Tests.{same_self, same_true}
use Rattle.names.specs.Names.{between, plain_byte, every_plain, point_ok}
use Rattle.decimal.specs.Fields.{fields, field_len}
use Rattle.decimal.specs.Decimal.{plain_of, decimal_text}
use Rattle.decimal.proofs.Round.{text_short, text_digits, plain_text, plain_only}
use Rattle.decimal.proofs.Joins.{joined, joined_fields, digits_field, field_then, field_alone}
use Rattle.marks.specs.declared.Mark.{Mark}
use Rattle.marks.specs.Line.{line_of, mark_of, numbers_of, three_of, says_of}
use Rattle.marks.proofs.Parted.{both, other_first, no_feed, with_feed, last_feed}

-- ---- a point's name has no tab

not_tab : (b : ℕ) → plain_byte b ≡ true → eqb b 9 ≡ false
unfolding plain_byte
not_tab b h = go (eqb b 9) refl
  where
    go : (t : Bool) → eqb b 9 ≡ t → eqb b 9 ≡ false
    go true e = absurd (false≢true (rw (eqb-true b 9 e) at h))
    go false e = e

plain_field : (l : List ℕ) → every_plain l ≡ true → field_len l ≡ length l
unfolding every_plain field_len split_at
plain_field [] e = refl
plain_field (b ∷ bs) e =
    let p = and_true (plain_byte b) (every_plain bs) e in
    omega (arith, len_on 9 b bs (not_tab b p.0), plain_field bs p.1)

point_field : (p : List ℕ) → point_ok p ≡ true → field_len p ≡ length p
unfolding point_ok
point_field p ok = plain_field p (and_true (between 1 16 (length p)) (every_plain p) ok).1

-- ---- a text and a line feed

feed_back : (x : List ℕ) → get_or x (length x - 1) 0 ≡ 10 → x ≡ take (length x - 1) x ++ (10 ∷ [])
feed_back [] e = absurd (omega arith)
feed_back (b ∷ bs) e =
    let t : take (suc (length (b ∷ bs) - 1)) (b ∷ bs) ≡ b ∷ bs = take_all (suc (length (b ∷ bs) - 1)) (b ∷ bs) (omega arith) in
    sym t ∙ take-suc (b ∷ bs) (length (b ∷ bs) - 1) 0 (omega arith) ∙ rw e

-- ---- the line's fields

module _ (p : List ℕ) (id n : ℕ) where
  abbrev three : List (List ℕ)
  three = p ∷ decimal_text id ∷ decimal_text n ∷ []

  line_joined : line_of p id n ≡ joined three ++ (10 ∷ [])
  unfolding line_of
  line_joined = ap (λ (t : List ℕ). t ++ (10 ∷ [])) (append_assoc p (9 ∷ decimal_text id) (9 ∷ decimal_text n))

  line_fields : field_len p ≡ length p → fields (joined three) ≡ three
  line_fields h =
      field_then p (decimal_text id ++ (9 ∷ decimal_text n)) h
      ∙ rw (field_then (decimal_text id) (decimal_text n) (digits_field (decimal_text id) (text_digits id)), field_alone (decimal_text n) (digits_field (decimal_text n) (text_digits n)))

  line_said : (q : List ℕ) → field_len p ≡ length p → says_of q (line_of p id n) ≡ three_of q three
  line_said q h = rw line_joined (last_feed q (joined three ++ (10 ∷ [])) (joined three) 10 refl refl ∙ rw (line_fields h))

-- ---- the laws

module _ (p : List ℕ) (ok : point_ok p ≡ true) (id n : ℕ) where
  -- a point's line says its numbers
  pub line_back : id < 4294967296 → n < 4294967296 → says_of p (line_of p id n) ≡ Some (record { id = id; number = n })
  unfolding three_of pick
  line_back h k =
      line_said p id n p (point_field p ok)
      ∙ rw (same_self p) (both (decimal_text id) (decimal_text n) (plain_text 4294967295 id (omega arith) (omega arith)) (plain_text 4294967295 n (omega arith) (omega arith)))

  -- and nothing of another name
  pub line_other : (q : List ℕ) → (p ≡ q → ⊥) → says_of q (line_of p id n) ≡ None
  line_other q h = line_said p id n q (point_field p ok) ∙ go (same_bytes p q) refl
    where
      go : (t : Bool) → same_bytes p q ≡ t → three_of q (three p id n) ≡ None
      go true e = absurd (h (same_true p q e))
      go false e = other_first q p (decimal_text id ∷ decimal_text n ∷ []) e

never : {A : Type 0} {m : Mark} → None ≡ Some m → A
never e = let z : ◌≡◌ {A = ℕ} 0 1 = cc in absurd (omega arith)

mark_said : (a b : Option ℕ) (id n : ℕ) → mark_of a b ≡ Some (record { id = id; number = n }) → (a ≡ Some id) × (b ≡ Some n)
unfolding mark_of
mark_said (Some i) (Some k) id n e =
    let m : ◌≡◌ {A = Mark} (record { id = i; number = k }) (record { id = id; number = n }) = cc in
    (ap (λ (x : Mark). Some x.id) m, ap (λ (x : Mark). Some x.number) m)
mark_said (Some i) None id n e = never e
mark_said None b id n e = never e

-- no other record does: what says something is the line of what it says
module _ (p : List ℕ) (id n : ℕ) where
  Said : List (List ℕ) → Type 0
  Said fs = (fs ≡ three p id n) × (id < 4294967296) × (n < 4294967296)

  three_only : (fs : List (List ℕ)) → three_of p fs ≡ Some (record { id = id; number = n }) → Said fs
  unfolding three_of pick numbers_of Said
  three_only [] e = never e
  three_only (a ∷ []) e = never e
  three_only (a ∷ b ∷ []) e = never e
  three_only (a ∷ b ∷ c ∷ []) e = go (same_bytes a p) refl e
    where
      go : (t : Bool) → same_bytes a p ≡ t → pick t (numbers_of b c) None ≡ Some (record { id = id; number = n }) → Said (a ∷ b ∷ c ∷ [])
      go true s h =
          let m = mark_said (plain_of 4294967295 b) (plain_of 4294967295 c) id n h in
          let i = plain_only 4294967295 id (omega arith) b m.0 in
          let k = plain_only 4294967295 n (omega arith) c m.1 in
          (rw (same_true a p s, i.0, k.0), omega (arith, i.1), omega (arith, k.1))
      go false s h = never h
  three_only (a ∷ b ∷ c ∷ d ∷ fs) e = never e

  pub line_only : (x : List ℕ) → says_of p x ≡ Some (record { id = id; number = n }) → (x ≡ line_of p id n) × (id < 4294967296) × (n < 4294967296)
  unfolding Said
  line_only x e = go (eqb (get_or x (length x - 1) 0) 10) refl
    where
      go : (t : Bool) → eqb (get_or x (length x - 1) 0) 10 ≡ t → (x ≡ line_of p id n) × (id < 4294967296) × (n < 4294967296)
      go true f =
          let last : get_or x (length x - 1) 0 ≡ 10 = eqb-true (get_or x (length x - 1) 0) 10 f in
          let front : List ℕ = take (length x - 1) x in
          let said = three_only (fields front) (sym (with_feed p x last) ∙ e) in
          let whole : front ≡ joined (three p id n) = sym (joined_fields front) ∙ ap joined said.0 in
          (feed_back x last ∙ ap (λ (t : List ℕ). t ++ (10 ∷ [])) whole ∙ sym (line_joined p id n), said.1, said.2)
      go false f = never (sym (no_feed p x (eqb-false (get_or x (length x - 1) 0) 10 f)) ∙ e)

  -- a line's length
  pub line_short : id < 4294967296 → n < 4294967296 → length (line_of p id n) ≤ length p + 23
  unfolding line_of
  line_short h k = simp length-append (omega (arith, text_short id h, text_short n k))

  pub line_some : 1 ≤ length (line_of p id n)
  unfolding line_of
  line_some = simp length-append (omega arith)
