-- 02, S-9: "A slot cannot have more than 2,048 chunks, so list shall take 64 numbers of 16 bits in place of 64 of 32. Rows, order and refusals are the
-- same, with Range still meaning fewer than 64 numbers. The old listing is proved equal on every volume." The listing's definition speaks of numbers,
-- whatever their width: `list_call` on a buffer of 32 bits is the old listing, on one of 16 the new. What it tells goes by neither the width nor the length
-- nor what the buffer held, and 16 bits hold its counts. One statement has this; proofs/Widths proves it. Assumes nothing.
use Rattle.std.specs.Prelude.{Err, Ok}
use Rattle.std.specs.Prelude.{ℕ, ◌^◌, ◌<◌, ◌≤◌, ◌≡◌, List, ltb, length, get_or, take, drop}
use Rattle.medium.specs.declared.Error.TheVariants.{Range}
use Rattle.medium.specs.declared.Medium.{Medium}
use Rattle.handles.specs.declared.Store.{Store}
use Rattle.store.specs.Asked.{asked_dir}
use Rattle.store.specs.Reading.{ListCall, list_at, list_call}

-- the input is not refused: it passes 2, 3 and 1
pub record Passes (vol : List ℕ) (st : Store) (dir counts rows : List ℕ) : Type 0 where
  pub rows_lent : 3072 ≤ length rows
  pub counts_lent : 64 ≤ length counts
  pub asked : asked_dir vol st dir ≡ Ok tt

-- two listings with the same answer, number of rows made, medium record, and bytes of all rows lent
pub record SameTold (a b : ListCall) : Type 0 where
  pub answer : a.answer ≡ b.answer
  pub made : a.made ≡ b.made
  pub medium : a.medium ≡ b.medium
  pub rows : a.rows ≡ b.rows

-- every number fits so many bits
abbrev pub Fits : ℕ → List ℕ → Type 0
Fits bits l = (k : ℕ) → k < length l → get_or l k 0 < 2 ^ bits

-- of every volume, medium record, store value, directory and rows lent
pub record Widths (vol : List ℕ) (m : Medium) (st : Store) (dir rows : List ℕ) : Type 0 where
  -- any two count buffers, both of at least 64 numbers or both of fewer: the same is told
  pub told : (wide narrow : List ℕ) → ltb (length wide) 64 ≡ ltb (length narrow) 64
      → SameTold (list_call vol m st dir wide rows) (list_call vol m st dir narrow rows)
  -- and, where the input is not refused, their first 64 counts are equal
  pub first : (wide narrow : List ℕ) → Passes vol st dir wide rows → Passes vol st dir narrow rows
      → take 64 (list_call vol m st dir wide rows).counts ≡ take 64 (list_call vol m st dir narrow rows).counts
  -- no count passes the store's chunks, nor these 2,048, counts that a state refusal keeps included
  pub most : (counts : List ℕ) → Passes vol st dir counts rows → (k : ℕ) → k < 64
      → (get_or (list_call vol m st dir counts rows).counts k 0 ≤ st.head.chunks) × (st.head.chunks ≤ 2048)
  -- so numbers of 16 bits stay numbers of 16 bits
  pub fits : (counts : List ℕ) → Fits 16 counts → Fits 16 (list_call vol m st dir counts rows).counts
  -- numbers past the 64th are as they were, and as many
  pub past : (counts : List ℕ) → drop 64 (list_call vol m st dir counts rows).counts ≡ drop 64 counts
  pub size : (counts : List ℕ) → length (list_call vol m st dir counts rows).counts ≡ length counts
  -- where the input is refused, all of them are
  pub kept : (counts : List ℕ) → (Passes vol st dir counts rows → ⊥) → (list_call vol m st dir counts rows).counts ≡ counts
  -- fewer than 64 numbers: 2, before all else, with everything as given
  pub short : (counts : List ℕ) → length counts < 64 → list_call vol m st dir counts rows ≡ list_at m (Err Range) 0 counts rows
