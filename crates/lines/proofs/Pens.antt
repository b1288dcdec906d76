-- Texts put one after the other, and what each function that puts one promises. Assumes nothing.
use Rattle.std.specs.Prelude.{Result, Ok, Err}
use Prim.Native.Nat.{ℕ, ◌+◌, ◌-◌, ◌*◌, ◌≤◌}
use mathlib.Core.Path.{◌≡◌, subst}
use mathlib.Core.List.{List, [], ◌∷◌, ◌++◌}
use native.Mathlib.Numerals.{add-one}
use native.Mathlib.Omega.{arith}
use lib.ListN.{length, take, drop, length-take, length-drop}
use lib.Seq.{sets-eq}
use Rattle.le.specs.Field.{get_le}
use Rattle.le.specs.Part.{part, over}
use Rattle.le.proofs.Parts.{length_part}
use Rattle.decimal.specs.Decimal.{Put}
use Rattle.decimal.proofs.Texts.{text_room}
use Rattle.decimal.proofs.Puts.{put_then}
use Rattle.names.specs.Names.{text_len}
use Rattle.medium.specs.declared.Error.{Error}
use Rattle.medium.specs.Refusal.{number_of}
use Rattle.session.specs.declared.Reply.{Reply}
use Rattle.session.specs.declared.Reply.TheVariants.{Number, Rows}
use Rattle.session.specs.Session.{said_of}
use Rattle.lines.specs.Text.{field_text, ok_word, no_word, word_text, row_text, rows_text, said_text, Few}

-- no text
pub put_none : (at : ℕ) (l : List ℕ) → at ≤ length l → Put at [] l l at
unfolding over
put_none at l h = (sets-eq [] l at (omega arith), omega arith)

-- a tab and the digits
pub field_few : (n : ℕ) → length (field_text n) ≤ 21
unfolding field_text
field_few n = omega (arith, text_room n)

module _ (l : List ℕ) where
  -- a word of two letters, a field, a line feed
  pub word_put : (word : List ℕ) (n : ℕ) {m1 m2 o : List ℕ} {a b r : ℕ} → 32 ≤ length l → length word ≡ 2
      → Put 0 word l m1 a → Put a (field_text n) m1 m2 b × (b ≤ a + 21) → Put b (10 ∷ []) m2 o r → Put 0 (word_text word n) l o r × (r ≤ 32)
  unfolding word_text
  word_put word n room two p q s =
      (put_then 0 (word ++ field_text n) (10 ∷ []) l (omega (arith, p.1, q.1, s.1)) (put_then 0 word (field_text n) l (omega (arith, p.1, q.1)) p q.0) s, omega (arith, p.1, q.1, s.1))

  module _ (at : ℕ) (row : List ℕ) where
    -- a name, two fields, a line feed
    pub row_put : (n i c : ℕ) {m1 m2 m3 o : List ℕ} {a b d r : ℕ} → at + 96 ≤ length l → length row ≡ 48 → (n ≡ text_len (part 0 40 row)) × (n ≤ length (part 0 40 row)) → i ≡ get_le 4 40 row → c ≡ get_le 4 44 row
        → Put at (take n row) l m1 a → Put a (field_text i) m1 m2 b × (b ≤ a + 21) → Put b (field_text c) m2 m3 d × (d ≤ b + 21) → Put d (10 ∷ []) m3 o r
        → Put at (row_text row) l o r × (r ≤ at + 96)
    unfolding row_text
    row_put n i c room size t ei ec p q s u =
        let name : length (part 0 40 row) ≡ 40 = length_part 0 40 row (omega arith) in
        let short : length (take n row) ≤ 40 = rw (length-take n row) (omega (arith, t.1, name)) in
        let w = put_then at (take n row) (field_text i) l (omega (arith, p.1, q.1, short)) p q.0 in
        let x = put_then at (take n row ++ field_text i) (field_text c) l (omega (arith, p.1, q.1, s.1, short)) w s.0 in
        let y = put_then at (take n row ++ field_text i ++ field_text c) (10 ∷ []) l (omega (arith, p.1, q.1, s.1, u.1, short)) x u in
        (rw (← t.0, ← ei, ← ec) y, omega (arith, p.1, q.1, s.1, u.1, short))

-- a name lies within its row
pub text_short : (row : List ℕ) {n : ℕ} → length row ≡ 48 → (n ≡ text_len (part 0 40 row)) × (n ≤ length (part 0 40 row)) → n ≤ length row
text_short row size t = let name : length (part 0 40 row) ≡ 40 = length_part 0 40 row (omega arith) in omega (arith, t.1, name)

-- no row yet
pub rows_none : (at : ℕ) (l rows : List ℕ) → at ≤ length l → Put at (rows_text 0 rows) l l at
unfolding rows_text
rows_none at l rows h = put_none at l h

-- one row more, lent as a part of the rows
pub row_lent : (rows : List ℕ) (i : ℕ) → 48 * i + 48 ≤ length rows → length (take (48 * i + 48 - 48 * i) (drop (48 * i) rows)) ≡ 48
row_lent rows i h = simp (length-take, length-drop) (omega arith)

pub rows_more : (at : ℕ) (l rows : List ℕ) (i : ℕ) {m o : List ℕ} {e r : ℕ} → r ≤ length l → Put at (rows_text i rows) l m e → Put e (row_text (take (48 * i + 48 - 48 * i) (drop (48 * i) rows))) m o r → Put at (rows_text (i + 1) rows) l o r
unfolding rows_text part
rows_more at l rows i {m = m} {o = o} {e = e} {r = r} h p q =
    let z : 48 * i + 48 - 48 * i ≡ 48 = omega arith in
    let row : Put e (row_text (part (48 * i) 48 rows)) m o r = subst (λ (k : ℕ). Put e (row_text (take k (drop (48 * i) rows))) m o r) z q in
    rw add-one (put_then at (rows_text i rows) (row_text (part (48 * i) 48 rows)) l h p row)

-- ---- an answer, by its kind

pub rows_few : {reply : Result Reply Error} {x : Reply} {n : ℕ} → Few (said_of reply) → reply ≡ Ok x → x ≡ Rows n → n ≤ 64
rows_few h e q = rw (e, q) at h

module _ (l rows : List ℕ) (reply : Result Reply Error) {o : List ℕ} {r : ℕ} where
  pub refusal_put : {x : Error} {n : ℕ} → reply ≡ Err x → n ≡ number_of x → Put 0 (word_text no_word n) l o r × (r ≤ 32) → Put 0 (said_text (said_of reply) rows) l o r × (r ≤ 8192)
  unfolding said_text
  refusal_put e q p = rw (e, ← q) (p.0, omega (arith, p.1))

  module _ {x : Reply} (e : reply ≡ Ok x) where
    pub number_put : {n : ℕ} → x ≡ Number n → Put 0 (word_text ok_word n) l o r × (r ≤ 32) → Put 0 (said_text (said_of reply) rows) l o r × (r ≤ 8192)
    unfolding said_text
    number_put q p = rw (e, q) (p.0, omega (arith, p.1))

    pub rows_put : {n at : ℕ} {m : List ℕ} → 8192 ≤ length l → Few (said_of reply) → x ≡ Rows n → Put 0 (word_text ok_word n) l m at × (at ≤ 32)
        → Put at (rows_text n rows) m o r × (r ≤ at + 96 * n) → Put 0 (said_text (said_of reply) rows) l o r × (r ≤ 8192)
    unfolding said_text
    rows_put {n = n} room few k p q =
        let h : n ≤ 64 = rows_few few e k in
        rw (e, k) (put_then 0 (word_text ok_word n) (rows_text n rows) l (omega (arith, p.1, q.1)) p.0 q.0, omega (arith, p.1, q.1))
