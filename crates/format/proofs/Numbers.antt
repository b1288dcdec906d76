-- The numbers of a new header: a sector can hold them, and the header is not foreign. Assumes nothing.
use mathlib.Core.Path.{◌≡◌, refl}
use mathlib.Core.Bool.{true, not, ◌&&◌, ◌||◌}
use mathlib.Core.List.{List}
use Prim.Native.Nat.{ℕ, zero, suc, ◌+◌, ◌-◌, ◌*◌, ◌/◌, ◌^◌, ◌≤◌, ◌<◌}
use native.Mathlib.Nat.{min-le_left, min-le_right, div-mul-le_self, mul-le-mul_right, le_trans}
use native.Mathlib.Omega.{arith}
use borrow.Author.Tests.{lt-ltb, le-leb, ne_eqb}
use lib.Dec.{ltb, lit<}
use Rattle.le.proofs.Choices.{pick_keeps, pick_keeps_by}
use Rattle.le.proofs.Bools.{and_true}
use Rattle.medium.specs.declared.Medium.{Medium}
use Rattle.medium.specs.Sector.{sectors_of}
use Rattle.handles.specs.Handles.{body_of, sane_of}
use Rattle.header.specs.declared.answers.Copies.{Copies}
use Rattle.header.specs.Copies.{is_ours, copy_of, both_of, takes_b}
use Rattle.header.specs.Header.{Bytes, InRange}
use Rattle.header.proofs.Accepted.{copy_valid, copy_range}
use Rattle.format.specs.Format.{chunks_of, copy_for, newest_of, id_for, format_head}
use Rattle.format.proofs.Crcs.{length_crcs, crcs_past, crcs_lt}
use Rattle.format.proofs.Ids.{id_fresh, id_lt}

pub copy_lt : (c : Copies) → copy_for c < 2
unfolding copy_for
copy_lt c = pick_keeps (λ (k : ℕ). k < 2) _ _ _ (lit< tt) (pick_keeps (λ (k : ℕ). k < 2) _ _ _ (lit< tt) (lit< tt))

pub chunks_most : (sectors size : ℕ) → chunks_of sectors size ≤ 2048
unfolding chunks_of
chunks_most sectors size = min-le_right ((sectors - 64) / size) 2048

-- the chunks fit after sector 63
chunks_room : (sectors size : ℕ) → chunks_of sectors size * size ≤ sectors - 64
unfolding chunks_of
chunks_room sectors size = le_trans (mul-le-mul_right size (min-le_left ((sectors - 64) / size) 2048)) (div-mul-le_self (sectors - 64) size)

module _ (c : Copies) (m : Medium) (sectors size seed : ℕ) (most : size ≤ 512) where
  pub head_sane : 64 ≤ sectors → 1 ≤ size → (chunks_of sectors size ≡ 0 → ⊥) → sane_of (format_head c m (chunks_of sectors size) size seed) sectors ≡ true
  unfolding sane_of format_head
  head_sane enough least some =
      let n : ℕ = chunks_of sectors size in
      let one : 1 ≤ n = pos n some in
      let room : n * size ≤ sectors - 64 = chunks_room sectors size in
      rw (ne_eqb (id_for c m seed) 0 (id_fresh c m seed).0, lt-ltb 0 n one, le-leb n 2048 (chunks_most sectors size), le-leb 1 size least, le-leb size 512 most)
      (le-leb (64 + n * size) sectors (omega arith))
    where
      pos : (n : ℕ) → (n ≡ 0 → ⊥) → 1 ≤ n
      pos zero f = absurd (f refl)
      pos (suc n) f = omega arith

  pub head_range : newest_of c + 1 < 2 ^ 64 → InRange (format_head c m (chunks_of sectors size) size seed)
  unfolding format_head
  head_range g =
      let n : ℕ = chunks_of sectors size in
      let few : n ≤ 2048 = chunks_most sectors size in
      record {
        id = id_lt c m seed;
        generation = g;
        next = lit< tt;
        cursor = lit< tt;
        chunks = omega arith;
        chunk = omega arith;
        count = length_crcs (body_of n) (omega arith);
        crcs = crcs_lt (body_of n);
        past = crcs_past (body_of n);
      }

-- the newest's generation is one that a sector holds
pub newest_lt : (vol : List ℕ) → Bytes vol → 64 ≤ sectors_of vol → newest_of (both_of (copy_of vol 0) (copy_of vol 32)) < 2 ^ 64
unfolding newest_of takes_b
newest_lt vol small enough =
    pick_keeps_by (λ (g : ℕ). g < 2 ^ 64) (is_ours (copy_of vol 32).kind && (not (is_ours (copy_of vol 0).kind) || ltb (copy_of vol 0).head.generation (copy_of vol 32).head.generation)) _ _
    (λ t. held 32 (omega arith) (and_true (is_ours (copy_of vol 32).kind) _ t).0)
    (λ _. pick_keeps_by (λ (g : ℕ). g < 2 ^ 64) (is_ours (copy_of vol 0).kind) _ _ (held 0 (omega arith)) (λ _. lit< tt))
  where
    held : (k : ℕ) → k < sectors_of vol → is_ours (copy_of vol k).kind ≡ true → (copy_of vol k).head.generation < 2 ^ 64
    held k f t = (copy_range vol k (copy_of vol k).head (copy_valid vol k t) f small).generation
