-- Decoding what encoding wrote gives the header back. Assumes nothing.
use mathlib.Core.Path.{◌≡◌, refl, sym, ap, ◌∙◌}
use mathlib.Core.Bool.{true, false}
use mathlib.Core.List.{List, ◌++◌}
use Prim.Native.Nat.{ℕ, ◌+◌, ◌-◌, ◌*◌, ◌%◌, ◌^◌, ◌≤◌, ◌<◌}
use native.Mathlib.Nat.{mod-eq_of_lt}
use native.Mathlib.Omega.{arith}
use borrow.Author.Tests.{eq-eqb}
use lib.Dec.{lit<, lit≤}
use lib.ListN.{length, take, drop, length-drop, take-append-drop}
use lib.Seq.{ext_get_or, get_or-drop}
use Rattle.le.specs.Part.{part, over, zeros}
use Rattle.le.specs.Field.{le_number, get_le}
use Rattle.le.specs.Choice.{pick}
use Rattle.le.proofs.Choices.{pick_false}
use Rattle.le.proofs.Parts.{part_over, part_before, part_after, part_part, length_zeros, get_or_zeros, part_zeros}
use Rattle.le.proofs.Fields.{put_before}
use Rattle.le.proofs.Layouts.{got, outside}
use Rattle.runs.specs.Run.{starts_with, all_same, all_zero}
use Rattle.runs.proofs.Tests.{zeros_pass, starts_front}
use Rattle.seal.specs.Seal.{sealed, is_sealed}
use Rattle.seal.proofs.Laws.{sealed_is}
use Rattle.checksum.specs.Crc.{crc32_of}
use Rattle.handles.specs.declared.Header.{Header}
use Rattle.handles.specs.Handles.{table_of, body_of, sane_of}
use Rattle.handles.proofs.Laws.{sane_facts}
use Rattle.header.specs.declared.codec.Replica.TheVariants.{Absent}
use Rattle.header.specs.Header.{magic, fields_of, content_of, encode_of, unmarked_of, zero_from, fixed_ok, numbers_at, crcs_of, head_of, ours, bare, decode_of, InRange}
use Rattle.header.proofs.Words.{numbers_words}
use Rattle.header.proofs.Fill.{start_of, list_of, listed, listed_fits, length_content}

-- ---- where encoding puts what

module _ (h : Header) (count : length h.crcs ≡ 24) (most : h.chunks ≤ 2048) where
  -- before the CRC
  content : (o n : ℕ) → o + n ≤ 508 → part o n (encode_of h) ≡ part o n (content_of h)
  unfolding encode_of sealed
  content o n f = put_before 4 508 (crc32_of (take 508 (content_of h))) (content_of h) (omega (arith, length_content h count most)) o n f

  -- before the checksums
  front : (o n : ℕ) → o + n ≤ 64 → part o n (encode_of h) ≡ part o n (start_of h)
  unfolding content_of
  front o n f = content o n (omega arith) ∙ part_before 64 (list_of h) (start_of h) (listed_fits h count most) o n f

  -- a field that fits its width
  field : (n o v : ℕ) → get_le n o (start_of h) ≡ v % 256 ^ n → o + n ≤ 64 → v < 256 ^ n → get_le n o (encode_of h) ≡ v
  unfolding get_le
  field n o v e f small = ap le_number (front o n f) ∙ e ∙ mod-eq_of_lt small

  first : take 16 (encode_of h) ≡ magic
  unfolding part fields_of magic zeros
  first = front 0 16 (lit≤ tt) ∙ outside 512 16 0 (fields_of h) (magic ++ zeros 496) refl tt tt

  pub marked : starts_with magic (encode_of h) ≡ true
  unfolding magic
  marked = starts_front magic (encode_of h) first

  pub sealed_read : is_sealed (encode_of h) ≡ true
  unfolding encode_of
  sealed_read = sealed_is (content_of h) (length_content h count most)

  -- the bytes that must be 0
  gaps : (zero_from 22 24 (encode_of h) ≡ true) × (zero_from 56 64 (encode_of h) ≡ true)
  unfolding zero_from fields_of magic zeros part all_same
  gaps = (
    ap all_zero (front 22 2 (lit≤ tt) ∙ outside 512 2 22 (fields_of h) (magic ++ zeros 496) refl tt tt),
    ap all_zero (front 56 8 (lit≤ tt) ∙ outside 512 8 56 (fields_of h) (magic ++ zeros 496) refl tt tt),
  )

  tail_zeros : part 64 444 (start_of h) ≡ zeros 444
  unfolding fields_of magic zeros part
  tail_zeros = outside 512 444 64 (fields_of h) (magic ++ zeros 496) refl tt tt

  past : zero_from (64 + 4 * body_of h.chunks) 508 (encode_of h) ≡ true
  unfolding zero_from content_of
  past =
      let b : ℕ = 4 * body_of h.chunks in
      let n : 508 - (64 + b) ≡ 444 - b = omega arith in
      let w : length (list_of h) ≡ b = listed h count most in
      ap (λ (k : ℕ). all_zero (part (64 + b) k (encode_of h))) n
      ∙ ap all_zero
      (content (64 + b) (444 - b) (omega arith)
      ∙ part_after 64 (list_of h) (start_of h) (listed_fits h count most) (64 + b) (444 - b) (omega arith)
      ∙ sym (part_part 64 444 b (444 - b) (start_of h) (omega arith))
      ∙ ap (part b (444 - b)) tail_zeros
      ∙ part_zeros b (444 - b) 444 (omega arith))
      ∙ zeros_pass (444 - b)

  pub row_read : fixed_ok (encode_of h) h.chunks ≡ true
  unfolding fixed_ok fields_of magic zeros
  row_read =
      let t = got 512 (fields_of h) (magic ++ zeros 496) refl tt in
      let v : get_le 2 16 (encode_of h) ≡ 1 = field 2 16 1 (t 0 (lit< tt)) (lit≤ tt) (lit< tt) in
      let e : get_le 2 18 (encode_of h) ≡ 8 = field 2 18 8 (t 1 (lit< tt)) (lit≤ tt) (lit< tt) in
      let n : get_le 2 20 (encode_of h) ≡ table_of h.chunks = field 2 20 (table_of h.chunks) (t 2 (lit< tt)) (lit≤ tt) (omega arith) in
      rw (v, e, n, eq-eqb (table_of h.chunks) (table_of h.chunks) refl, gaps.0, gaps.1, past)

-- what a sector holds, field by field
module _ (h : Header) (k : InRange h) (most : h.chunks ≤ 2048) where
  listed_read : numbers_at (body_of h.chunks) 64 (encode_of h) ≡ take (body_of h.chunks) h.crcs
  unfolding content_of part
  listed_read =
      let w : length (list_of h) ≡ 4 * body_of h.chunks = listed h k.count most in
      let n : body_of h.chunks ≤ length h.crcs = omega (arith, k.count) in
      let p : take (length (list_of h)) (drop 64 (encode_of h)) ≡ list_of h =
      content h k.count most 64 (length (list_of h)) (omega arith) ∙ part_over 64 (list_of h) (start_of h) (listed_fits h k.count most) in
      numbers_words (body_of h.chunks) 64 h.crcs (drop (length (list_of h)) (drop 64 (encode_of h))) (encode_of h) n k.crcs
      (sym (take-append-drop (length (list_of h)) (drop 64 (encode_of h))) ∙ ap (λ (r : List ℕ). r ++ drop (length (list_of h)) (drop 64 (encode_of h))) p)

  past_zeros : drop (body_of h.chunks) h.crcs ≡ zeros (24 - body_of h.chunks)
  past_zeros =
      let b : ℕ = body_of h.chunks in
      ext_get_or 0 (drop b h.crcs) (zeros (24 - b)) (length-drop b h.crcs ∙ rw (k.count, length_zeros (24 - b)))
      (λ i _. get_or-drop b h.crcs i 0 ∙ k.past (b + i) (omega arith) ∙ sym (get_or_zeros (24 - b) i))

  crcs_read : crcs_of (body_of h.chunks) (encode_of h) ≡ h.crcs
  unfolding crcs_of
  crcs_read = rw (listed_read, ← past_zeros) (take-append-drop (body_of h.chunks) h.crcs)

  chunks_read : get_le 4 48 (encode_of h) ≡ h.chunks
  unfolding fields_of magic zeros
  chunks_read = field h k.count most 4 48 h.chunks (got 512 (fields_of h) (magic ++ zeros 496) refl tt 7 (lit< tt)) (lit≤ tt) k.chunks

  head_read : head_of (encode_of h) ≡ h
  unfolding head_of fields_of magic zeros
  head_read =
      let t = got 512 (fields_of h) (magic ++ zeros 496) refl tt in
      let f = field h k.count most in
      let c : crcs_of (body_of (get_le 4 48 (encode_of h))) (encode_of h) ≡ h.crcs = rw chunks_read crcs_read in
      λ i. record {
        id = f 8 24 h.id (t 3 (lit< tt)) (lit≤ tt) k.id i;
        generation = f 8 32 h.generation (t 4 (lit< tt)) (lit≤ tt) k.generation i;
        next_id = f 4 40 h.next_id (t 5 (lit< tt)) (lit≤ tt) k.next i;
        cursor = f 4 44 h.cursor (t 6 (lit< tt)) (lit≤ tt) k.cursor i;
        chunks = chunks_read i;
        chunk = f 4 52 h.chunk (t 8 (lit< tt)) (lit≤ tt) k.chunk i;
        crcs = c i;
      }

-- ---- the laws

pub decode_encode : (h : Header) (sectors : ℕ) → sane_of h sectors ≡ true → InRange h → decode_of (encode_of h) sectors ≡ ours h
unfolding decode_of pick
decode_encode h sectors e k =
    let most : h.chunks ≤ 2048 = (sane_facts h sectors e).chunks_most in
    rw (marked h k.count most, sealed_read h k.count most, head_read h k most, chunks_read h k most, e, row_read h k.count most)

-- a sector without the magic holds no copy
pub unmarked : (l : List ℕ) (sectors : ℕ) → starts_with magic l ≡ false → decode_of l sectors ≡ bare Absent
unfolding decode_of
unmarked l sectors e = pick_false _ _ e

pub zeros_absent : (sectors : ℕ) → decode_of (zeros 512) sectors ≡ bare Absent
unfolding magic zeros starts_with
zeros_absent sectors = unmarked (zeros 512) sectors refl

pub unmarked_absent : (h : Header) (sectors : ℕ) → decode_of (unmarked_of h) sectors ≡ bare Absent
unfolding unmarked_of over magic zeros starts_with
unmarked_absent h sectors = unmarked (unmarked_of h) sectors refl
