-- What encoding leaves, call by call. Assumes nothing.
use mathlib.Core.Path.{◌≡◌, refl, sym, ◌∙◌}
use mathlib.Core.List.{List, ◌++◌}
use Prim.Native.Nat.{ℕ, ◌+◌, ◌*◌, ◌≤◌}
use native.Mathlib.Omega.{arith}
use lib.ListN.{length, take}
use Rattle.le.specs.Part.{over, zeros}
use Rattle.le.specs.Field.{le_bytes, put_le}
use Rattle.le.specs.Layout.{put_all}
use Rattle.le.proofs.Parts.{length_over, length_zeros, over_whole}
use Rattle.le.proofs.Fields.{length_put}
use Rattle.le.proofs.Layouts.{length_all}
use Rattle.seal.specs.Seal.{sealed}
use Rattle.checksum.specs.Crc.{crc32_of}
use Rattle.handles.specs.declared.Header.{Header}
use Rattle.handles.specs.Handles.{table_of, body_of}
use Rattle.header.specs.Header.{magic, fields_of, words, content_of, encode_of, unmarked_of}
use Rattle.header.proofs.Words.{length_first}

-- the sector before the checksums, and the checksums as they are put there
abbrev pub start_of : Header → List ℕ
start_of h = put_all (fields_of h) (magic ++ zeros 496)

abbrev pub list_of : Header → List ℕ
list_of h = words (take (body_of h.chunks) h.crcs)

marked : over 0 magic (zeros 512) ≡ magic ++ zeros 496
unfolding over zeros magic
marked = refl

-- the magic and the first three fields
pub start_chain : (n : ℕ) (s : List ℕ) {a b c d e : List ℕ} → length s ≡ 512 → a ≡ over 0 (zeros 512) s → b ≡ over 0 magic a
    → c ≡ put_le 2 16 1 b → d ≡ put_le 2 18 8 c → e ≡ put_le 2 20 n d → e ≡ put_le 2 20 n (put_le 2 18 8 (put_le 2 16 1 (magic ++ zeros 496)))
start_chain n s l ea eb ec ed ee = rw (ee, ed, ec, eb, ea, over_whole (zeros 512) s (length_zeros 512 ∙ sym l), marked)

-- all of them, put as the code puts them
fields_order : (h : Header) → put_le 4 52 h.chunk (put_le 4 48 h.chunks (put_le 4 44 h.cursor (put_le 4 40 h.next_id
    (put_le 8 32 h.generation (put_le 8 24 h.id (put_le 2 20 (table_of h.chunks) (put_le 2 18 8 (put_le 2 16 1 (magic ++ zeros 496)))))))))
    ≡ start_of h
unfolding fields_of put_le le_bytes over zeros magic
fields_order h = refl

pub fields_chain : (h : Header) {n : ℕ} {a b c d e f g : List ℕ} → n ≡ table_of h.chunks
    → a ≡ put_le 2 20 n (put_le 2 18 8 (put_le 2 16 1 (magic ++ zeros 496))) → b ≡ put_le 8 24 h.id a → c ≡ put_le 8 32 h.generation b
    → d ≡ put_le 4 40 h.next_id c → e ≡ put_le 4 44 h.cursor d → f ≡ put_le 4 48 h.chunks e → g ≡ put_le 4 52 h.chunk f
    → g ≡ start_of h
fields_chain h en ea eb ec ed ee ef eg = rw (eg, ef, ee, ed, ec, eb, ea, en) (fields_order h)

pub encode_chain : (h : Header) {n : ℕ} {a b c : List ℕ} → a ≡ start_of h → n ≡ body_of h.chunks
    → b ≡ over 64 (words (take n h.crcs)) a → c ≡ sealed b → c ≡ encode_of h
unfolding encode_of content_of
encode_chain h ea en eb ec = rw (ec, eb, ea, en)

-- ---- lengths

pub length_start : (h : Header) → length (start_of h) ≡ 512
unfolding fields_of magic zeros
length_start h = length_all 512 (fields_of h) (magic ++ zeros 496) refl tt

module _ (h : Header) (count : length h.crcs ≡ 24) (most : h.chunks ≤ 2048) where
  -- the checksums fit before the CRC
  pub listed : length (list_of h) ≡ 4 * body_of h.chunks
  listed = length_first (body_of h.chunks) h.crcs (omega arith)

  pub listed_fits : 64 + length (list_of h) ≤ length (start_of h)
  listed_fits = rw (listed, length_start h) (omega arith)

  pub length_content : length (content_of h) ≡ 512
  unfolding content_of
  length_content = length_over 64 (list_of h) (start_of h) listed_fits ∙ length_start h

  pub length_encode : length (encode_of h) ≡ 512
  unfolding encode_of sealed
  length_encode = length_put 4 508 (crc32_of (take 508 (content_of h))) (content_of h) (omega (arith, length_content)) ∙ length_content

  pub length_unmarked : length (unmarked_of h) ≡ 512
  unfolding unmarked_of
  length_unmarked = length_over 0 (zeros 16) (encode_of h) (rw (length_zeros 16, length_encode) (omega arith)) ∙ length_encode
