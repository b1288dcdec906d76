-- The checksums of a zeroed body: filled one after another, and read. The new header has them. Assumes nothing.
use mathlib.Core.Path.{◌≡◌, refl, sym, ap, ◌∙◌}
use mathlib.Core.Bool.{Bool, true, false}
use mathlib.Core.List.{List, ◌++◌}
use Prim.Native.Nat.{ℕ, ◌+◌, ◌-◌, ◌^◌, ◌≤◌, ◌<◌}
use native.Mathlib.Omega.{arith}
use borrow.Author.Tests.{ltb-true, ltb-false}
use lib.Dec.{ltb, lit<}
use lib.ListN.{length, get_or, drop, replicate, length-append, length-replicate, get_or-replicate, replicate-append-replicate, get_or-append}
use lib.Seq.{drop_at, get_or-append-add}
use Rattle.le.specs.Part.{zeros}
use Rattle.le.proofs.Parts.{length_zeros, get_or_zeros}
use Rattle.checksum.specs.Crc.{crc32_of}
use Rattle.checksum.proofs.Steps.{crc32_lt}
use Rattle.medium.specs.declared.Medium.{Medium}
use Rattle.handles.specs.Handles.{body_of}
use Rattle.header.specs.declared.answers.Copies.{Copies}
use Rattle.format.specs.Format.{zero_crcs, format_head, Zeroed}

-- what is left of the zeros
rest : (n : ℕ) → n ≤ 24 → drop n (replicate 24 0) ≡ zeros (24 - n)
unfolding zeros
rest n h =
    let e : n + (24 - n) ≡ 24 = omega arith in
    ap (λ (k : ℕ). drop n (replicate k 0)) (sym e) ∙ ap (drop n) (sym (replicate-append-replicate n (24 - n) 0))
    ∙ drop_at (replicate n 0) (replicate (24 - n) 0) n (length-replicate n 0)

-- the loop's end
pub filled : (n : ℕ) {c : ℕ} {l : List ℕ} → n ≤ 24 → c ≡ crc32_of (zeros 512) → l ≡ replicate n c ++ drop n (replicate 24 0) → l ≡ zero_crcs n
unfolding zero_crcs
filled n h ec el = el ∙ rw (ec, rest n h)

module _ (n : ℕ) where
  pub length_crcs : n ≤ 24 → length (zero_crcs n) ≡ 24
  unfolding zero_crcs
  length_crcs h = length-append (replicate n (crc32_of (zeros 512))) (zeros (24 - n)) ∙ rw (length-replicate n (crc32_of (zeros 512)), length_zeros (24 - n)) (omega arith)

  -- each body sector's is that of a zero sector
  pub crcs_body : (k : ℕ) → k < n → get_or (zero_crcs n) k 0 ≡ crc32_of (zeros 512)
  unfolding zero_crcs
  crcs_body k h =
      let s : ℕ = crc32_of (zeros 512) in
      get_or-append (replicate n s) (zeros (24 - n)) 0 k (rw (length-replicate n s) h) ∙ get_or-replicate n k s 0 h

  -- and past the body they are 0
  pub crcs_past : (k : ℕ) → n ≤ k → get_or (zero_crcs n) k 0 ≡ 0
  unfolding zero_crcs
  crcs_past k h =
      let s : ℕ = crc32_of (zeros 512) in
      let e : k ≡ length (replicate n s) + (k - n) = rw (length-replicate n s) (omega arith) in
      ap (λ (i : ℕ). get_or (replicate n s ++ zeros (24 - n)) i 0) e ∙ get_or-append-add (replicate n s) (zeros (24 - n)) (k - n) 0 ∙ get_or_zeros (24 - n) (k - n)

  pub crcs_lt : (k : ℕ) → get_or (zero_crcs n) k 0 < 2 ^ 32
  crcs_lt k = go (ltb k n) refl
    where
      go : (t : Bool) → ltb k n ≡ t → get_or (zero_crcs n) k 0 < 2 ^ 32
      go true e = rw (crcs_body k (ltb-true k n e)) (crc32_lt (zeros 512))
      go false e = rw (crcs_past k (ltb-false k n e)) (lit< tt)

pub head_zeroed : (c : Copies) (m : Medium) (chunks size seed : ℕ) → Zeroed (format_head c m chunks size seed)
unfolding format_head
head_zeroed c m chunks size seed = crcs_body (body_of chunks)
