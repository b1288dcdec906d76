-- The code reads an entry from the volume, the definition from its sector: the same bytes. Assumes nothing.
use mathlib.Core.Path.{◌≡◌, ap, sym, ◌∙◌}
use mathlib.Core.List.{List}
use Prim.Native.Nat.{ℕ, ◌+◌, ◌-◌, ◌*◌, ◌/◌, ◌%◌, ◌≤◌}
use native.Mathlib.Nat.{add-sub_cancel_left}
use native.Mathlib.Omega.{arith}
use lib.ListN.{take, drop}
use Rattle.le.specs.Part.{part}
use Rattle.le.proofs.Parts.{part_part}
use Rattle.medium.specs.Sector.{sector_at}
use Rattle.handles.specs.declared.Store.{Store}
use Rattle.handles.specs.Body.{body_at}
use Rattle.handles.specs.Handles.{base_of}
use Rattle.directory.specs.Entry.{entry_at}

-- where the entry of a slot starts in the volume
abbrev pub place_of : Store → ℕ → ℕ
place_of st i = 512 * (base_of st.copy + 1) + 64 * i

pub entry_place : (vol : List ℕ) (st : Store) (i : ℕ) → entry_at vol st i ≡ part (place_of st i) 64 vol
unfolding entry_at sector_at
entry_place vol st i =
    let e : 512 * body_at st (i / 8) + 64 * (i % 8) ≡ place_of st i = omega arith in
    part_part (512 * body_at st (i / 8)) 512 (64 * (i % 8)) 64 vol (omega arith) ∙ ap (λ (o : ℕ). part o 64 vol) e

-- its first bytes
pub name_place : (vol : List ℕ) (st : Store) (i len : ℕ) → len ≤ 64 → part 0 len (entry_at vol st i) ≡ part (place_of st i) len vol
name_place vol st i len h =
    let e : place_of st i + 0 ≡ place_of st i = omega arith in
    ap (part 0 len) (entry_place vol st i)
    ∙ part_part (place_of st i) 64 0 len vol (omega arith) ∙ ap (λ (o : ℕ). part o len vol) e

-- as the code has them, with the place in a variable
module _ (vol : List ℕ) (st : Store) (i : ℕ) {a : ℕ} (e : a ≡ place_of st i) where
  pub entry_slice : take (a + 64 - a) (drop a vol) ≡ entry_at vol st i
  unfolding part
  entry_slice = rw (add-sub_cancel_left a 64, e) (sym (entry_place vol st i))

  pub name_slice : {len : ℕ} → len ≤ 40 → take (a + len - a) (drop a vol) ≡ part 0 len (entry_at vol st i)
  unfolding part
  name_slice {len = len} h = rw (add-sub_cancel_left a len, e) (sym (name_place vol st i len (omega arith)))
