-- A row is put part by part, and a walk makes one row more; of the counts it reads those of the 64 slots. Assumes nothing.
use mathlib.Core.Path.{◌≡◌, refl, ap, sym, ◌∙◌}
use mathlib.Core.List.{List, ◌++◌, append_assoc}
use mathlib.Core.Bool.{Bool, true, false}
use Prim.Native.Nat.{ℕ, ◌+◌, ◌-◌, ◌*◌, ◌<◌, ◌≤◌, zero-le}
use native.Mathlib.Omega.{arith}
use lib.ListN.{length, get_or, length-append}
use Rattle.std.specs.Prelude.{Option, None, Some, Result, Ok, Err}
use Rattle.medium.specs.declared.Error.{Error}
use Rattle.le.specs.Choice.{pick}
use Rattle.le.specs.Field.{le_bytes, put_le}
use Rattle.le.specs.Part.{part, over, zeros}
use Rattle.le.proofs.Choices.{pick_true, pick_false}
use Rattle.le.proofs.Fields.{length_bytes}
use Rattle.le.proofs.Parts.{length_zeros, over_over}
use Rattle.le.proofs.Turns.{told}
use Rattle.names.specs.Names.{in_dir}
use Rattle.medium.specs.declared.Medium.{Medium}
use Rattle.handles.specs.declared.Store.{Store}
use Rattle.walk.specs.Walk.{next, visits}
use Rattle.walk.proofs.Laws.{walk_alike}
use Rattle.directory.specs.declared.File.{File}
use Rattle.directory.specs.Entry.{entry_at, slot_at}
use Rattle.directory.specs.Rows.{row_of, Made, row_made, listing, rows_of}
use Rattle.directory.specs.Scan.{on_slot}

-- two parts that meet are one, with the second's place in a variable
meets : (o p : ℕ) (vs ws l : List ℕ) → o + length vs ≡ p → p + length ws ≤ length l → over p ws (over o vs l) ≡ over o (vs ++ ws) l
meets o p vs ws l e h = ap (λ (q : ℕ). over q ws (over o vs l)) (sym e) ∙ over_over o vs ws l (omega arith)

module _ (name : List ℕ) (id chunks : ℕ) (short : length name ≤ 40) where
  abbrev padded : List ℕ
  padded = name ++ zeros (40 - length name)

  length_padded : length padded ≡ 40
  length_padded = omega (arith, length-append name (zeros (40 - length name)), length_zeros (40 - length name))

  abbrev numbered : List ℕ
  numbered = padded ++ le_bytes 4 id

  length_numbered : length numbered ≡ 44
  length_numbered = omega (arith, length-append padded (le_bytes 4 id), length_bytes 4 id, length_padded)

  row_parts : row_of name id chunks ≡ numbered ++ le_bytes 4 chunks
  unfolding row_of
  row_parts = sym (append_assoc padded (le_bytes 4 id) (le_bytes 4 chunks))

  pub length_row : length (row_of name id chunks) ≡ 48
  length_row = ap length row_parts ∙ omega (arith, length-append numbered (le_bytes 4 chunks), length_bytes 4 chunks, length_numbered)

  -- the four writes of the code
  pub row_put : (at : ℕ) (rows : List ℕ) → at + 48 ≤ length rows
      → put_le 4 (at + 44) chunks (put_le 4 (at + 40) id (over (at + length name) (zeros (40 - length name)) (over at name rows))) ≡ over at (row_of name id chunks) rows
  unfolding put_le
  row_put at rows h =
      ap (λ (l : List ℕ). over (at + 44) (le_bytes 4 chunks) (over (at + 40) (le_bytes 4 id) l))
      (meets at (at + length name) name (zeros (40 - length name)) rows (omega arith) (omega (arith, length_zeros (40 - length name))))
      ∙ ap (λ (l : List ℕ). over (at + 44) (le_bytes 4 chunks) l) (meets at (at + 40) padded (le_bytes 4 id) rows (omega (arith, length_padded)) (omega (arith, length_bytes 4 id)))
      ∙ meets at (at + 44) numbered (le_bytes 4 chunks) rows (omega (arith, length_numbered)) (omega (arith, length_bytes 4 chunks))
      ∙ ap (λ (l : List ℕ). over at l rows) (sym row_parts)

-- ---- a file of the walk, by the code's test: one row more, or none

module _ (dir counts : List ℕ) (i id : ℕ) (name rows : List ℕ) (count : ℕ) {inside : Bool} (tested : inside ≡ in_dir dir name) where
  pub row_made_lem : (row after : List ℕ) → inside ≡ true → after ≡ over (48 * count) (row_of row id (get_or counts i 0)) rows → row ≡ name
      → (listing dir counts).file i id name (record { rows = rows; count = count }) ≡ next (record { rows = after; count = count + 1 })
  unfolding row_made
  row_made_lem row after t e q = ap next (pick_true _ _ (told tested t) ∙ rw (e, q))

  pub row_skipped : inside ≡ false → (listing dir counts).file i id name (record { rows = rows; count = count }) ≡ next (record { rows = rows; count = count })
  row_skipped t = ap next (pick_false _ _ (told tested t))

-- ---- counts that agree at the 64 slots give the same rows

module _ (vol : List ℕ) (m : Medium) (st : Store) (dir c d : List ℕ) (same : (i : ℕ) → i < 64 → get_or c i 0 ≡ get_or d i 0) where
  visited : (i : ℕ) (s : Made) → i < 64 → (x : Result (Option File) Error) → on_slot (listing dir c) (entry_at vol st) i s x ≡ on_slot (listing dir d) (entry_at vol st) i s x
  visited i s h (Err e) = refl
  visited i s h (Ok None) = refl
  visited i s h (Ok (Some f)) =
      let name : List ℕ = part 0 f.len (entry_at vol st i) in ap (λ (n : ℕ). next (pick (in_dir dir name) (row_made name f.id n s) s)) (same i h)

  pub rows_same : (rows : List ℕ) → rows_of vol m st dir c rows ≡ rows_of vol m st dir d rows
  unfolding rows_of visits
  rows_same rows = walk_alike _ _ (listing dir d).done 64 (λ k t h. visited k t h (slot_at vol m st k)) 0 _ zero-le
