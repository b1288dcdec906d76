-- What was made is judged valid, at its own store, file and number only, and its payload is read back. Assumes nothing.
use Rattle.std.specs.Prelude.{Option, Some, None, Result, Ok, Err}
use Rattle.medium.specs.declared.Error.{Error}
use mathlib.Core.Path.{◌≡◌, refl, ap, ◌∙◌}
use mathlib.Core.Bool.{Bool, true, false, ◌&&◌}
use mathlib.Core.List.{List, ◌++◌}
use Prim.Native.Nat.{ℕ, ◌+◌, ◌*◌, ◌^◌, ◌≤◌, ◌<◌}
use native.Mathlib.Nat.{mod-eq_of_lt}
use native.Mathlib.Omega.{arith}
use borrow.Author.Tests.{leb-true, eqb-true, le-leb, eq-eqb}
use lib.Dec.{lit<, lit≤}
use lib.ListN.{length, take, get_or}
use Rattle.le.specs.Choice.{pick}
use Rattle.le.specs.Part.{part, zeros}
use Rattle.le.specs.Field.{get_le, le_number}
use Rattle.le.specs.Layout.{Put, put, put_all}
use Rattle.le.proofs.Parts.{length_zeros, length_over, part_over, part_before, part_part}
use Rattle.le.proofs.Fields.{length_put, put_before}
use Rattle.le.proofs.Layouts.{length_all, outside, got, none}
use Rattle.le.proofs.Turns.{told}
use Rattle.le.proofs.Bools.{and_true}
use Rattle.runs.specs.Run.{starts_with}
use Rattle.runs.proofs.Tests.{starts_front}
use Rattle.checksum.specs.Crc.{crc32_of}
use Rattle.seal.specs.Seal.{sealed, is_sealed}
use Rattle.seal.proofs.Laws.{sealed_is}
use Rattle.medium.specs.declared.Medium.{Medium}
use Rattle.medium.specs.Refusal.{on_done}
use Rattle.medium.specs.Sector.{sector_at, read_of}
use Rattle.handles.specs.declared.Store.{Store}
use Rattle.record.specs.Record.{mark, fields_of, unsealed_of, record_of, matches_of, judge_of, carries_of, payload_of, data_at, read_record_of}

-- ---- what a valid sector is

pub record Passes (id file number : ℕ) (s : List ℕ) (n : ℕ) : Type 0 where
  pub marked : starts_with mark s ≡ true
  pub store : get_le 8 4 s ≡ id
  pub owner : get_le 4 12 s ≡ file
  pub place : get_le 4 16 s ≡ number
  pub size : get_le 2 20 s ≡ n
  pub least : 1 ≤ n
  pub most : n ≤ 486
  pub whole : is_sealed s ≡ true

picked : (b : Bool) (x n : ℕ) → pick b (Some x) None ≡ Some n → (b ≡ true) × (x ≡ n)
unfolding pick
picked true x n e = (refl, cc)
picked false x n e = absurd (let z : ◌≡◌ {A = ℕ} 0 1 = cc in omega arith)

module _ (id file number : ℕ) (s : List ℕ) where
  pub judge_facts : {n : ℕ} → judge_of id file number s ≡ Some n → Passes id file number s n
  unfolding judge_of matches_of
  judge_facts {n} e =
      let p = picked (matches_of id file number s && is_sealed s) (get_le 2 20 s) n e in
      let a = and_true _ _ p.0 in
      let b = and_true _ _ a.0 in
      let d = and_true _ _ b.1 in
      let f = and_true _ _ d.1 in
      let g = and_true _ _ f.1 in
      let l = and_true _ _ g.1 in
      record {
        marked = b.0;
        store = eqb-true _ _ d.0;
        owner = eqb-true _ _ f.0;
        place = eqb-true _ _ g.0;
        size = p.1;
        least = rw (← p.1) (leb-true _ _ l.0);
        most = rw (← p.1) (leb-true _ _ l.1);
        whole = a.1;
      }

  matches_by : {n : ℕ} → Passes id file number s n → matches_of id file number s ≡ true
  unfolding matches_of
  matches_by p = rw (p.marked, eq-eqb _ _ p.store, eq-eqb _ _ p.owner, eq-eqb _ _ p.place, p.size, le-leb _ _ p.least, le-leb _ _ p.most)

  pub judge_by : {n : ℕ} → Passes id file number s n → judge_of id file number s ≡ Some n
  unfolding judge_of pick
  judge_by p = rw (matches_by p, p.whole, p.size)

  -- a valid length is one that a record has
  pub judge_length : {n : ℕ} → judge_of id file number s ≡ Some n → (1 ≤ n) × (n ≤ 486)
  judge_length e = ((judge_facts e).least, (judge_facts e).most)

  -- a valid record of a file and number is a record of the store
  pub judge_carries : {n : ℕ} → judge_of id file number s ≡ Some n → carries_of id s ≡ true
  unfolding carries_of
  judge_carries e = let p = judge_facts e in rw (p.owner, p.place, matches_by p, p.whole)

-- and a record of the store is valid at its own file and number
pub carries_judge : (id : ℕ) (s : List ℕ) → carries_of id s ≡ true → judge_of id (get_le 4 12 s) (get_le 4 16 s) s ≡ Some (get_le 2 20 s)
unfolding carries_of judge_of pick
carries_judge id s e = rw e

-- ---- what was made

length_blank : length (mark ++ zeros 508) ≡ 512
length_blank = let n : length {A = ℕ} (zeros 508) ≡ 508 = length_zeros 508 in omega arith

-- the mark and the fields
abbrev front : ℕ → ℕ → ℕ → List ℕ → List ℕ
front id file number payload = put_all (fields_of id file number (length payload)) (mark ++ zeros 508)

module _ (id file number : ℕ) (payload : List ℕ) (short : length payload ≤ 486) where
  length_front : length (front id file number payload) ≡ 512
  length_front = length_all 512 (fields_of id file number (length payload)) (mark ++ zeros 508) length_blank tt

  room : 22 + length payload ≤ length (front id file number payload)
  room = rw length_front (omega arith)

  length_unsealed : length (unsealed_of id file number payload) ≡ 512
  unfolding unsealed_of
  length_unsealed = length_over 22 payload (front id file number payload) room ∙ length_front

  fits : 508 + 4 ≤ length (unsealed_of id file number payload)
  fits = rw length_unsealed (lit≤ tt)

  pub length_record : length (record_of id file number payload) ≡ 512
  unfolding record_of sealed
  length_record = length_put 4 508 (crc32_of (take 508 (unsealed_of id file number payload))) (unsealed_of id file number payload) fits ∙ length_unsealed

  -- the checksum leaves what lies before it
  before_crc : (o n : ℕ) → o + n ≤ 508 → part o n (record_of id file number payload) ≡ part o n (unsealed_of id file number payload)
  unfolding record_of sealed
  before_crc o n h = put_before 4 508 (crc32_of (take 508 (unsealed_of id file number payload))) (unsealed_of id file number payload) fits o n h

  -- so does the payload
  before_payload : (o n : ℕ) → o + n ≤ 22 → part o n (record_of id file number payload) ≡ part o n (front id file number payload)
  unfolding unsealed_of
  before_payload o n h = before_crc o n (omega arith) ∙ part_before 22 payload (front id file number payload) room o n h

  pub payload_made : payload_of (record_of id file number payload) (length payload) ≡ payload
  unfolding payload_of unsealed_of
  payload_made = before_crc 22 (length payload) (omega arith) ∙ part_over 22 payload (front id file number payload) room

  mark_back : starts_with mark (record_of id file number payload) ≡ true
  unfolding part
  mark_back =
      starts_front mark (record_of id file number payload)
      (before_payload 0 4 (lit≤ tt) ∙ outside 512 4 0 (fields_of id file number (length payload)) (mark ++ zeros 508) length_blank tt tt)

  whole_back : is_sealed (record_of id file number payload) ≡ true
  unfolding record_of
  whole_back = sealed_is (unsealed_of id file number payload) length_unsealed

  -- field k, by its place in the layout
  back : (k : ℕ) → k < 4 → (f : Put) → f ≡ get_or (fields_of id file number (length payload)) k none → f.offset + f.width ≤ 22 → f.value < 256 ^ f.width
      → get_le f.width f.offset (record_of id file number payload) ≡ f.value
  unfolding get_le
  back k h f e inside small =
      ap le_number (before_payload f.offset f.width inside)
      ∙ rw e (got 512 (fields_of id file number (length payload)) (mark ++ zeros 508) length_blank tt k h) ∙ mod-eq_of_lt small

  module _ (hid : id < 2 ^ 64) (hfile : file < 2 ^ 32) (hnumber : number < 2 ^ 32) where
    store_back : get_le 8 4 (record_of id file number payload) ≡ id
    store_back = back 0 (lit< tt) (put 8 4 id) refl (lit≤ tt) hid

    owner_back : get_le 4 12 (record_of id file number payload) ≡ file
    owner_back = back 1 (lit< tt) (put 4 12 file) refl (lit≤ tt) hfile

    place_back : get_le 4 16 (record_of id file number payload) ≡ number
    place_back = back 2 (lit< tt) (put 4 16 number) refl (lit≤ tt) hnumber

    size_back : get_le 2 20 (record_of id file number payload) ≡ length payload
    size_back = back 3 (lit< tt) (put 2 20 (length payload)) refl (lit≤ tt) (omega arith)

    -- what was made passes
    pub judge_made : 1 ≤ length payload → judge_of id file number (record_of id file number payload) ≡ Some (length payload)
    judge_made least =
        judge_by id file number (record_of id file number payload) record {
          marked = mark_back;
          store = store_back;
          owner = owner_back;
          place = place_back;
          size = size_back;
          least = least;
          most = short;
          whole = whole_back;
        }

    -- and at no other store, file or number
    pub judge_other : (id' file' number' : ℕ) {n : ℕ} → judge_of id' file' number' (record_of id file number payload) ≡ Some n
        → (id' ≡ id) × ((file' ≡ file) × ((number' ≡ number) × (n ≡ length payload)))
    judge_other id' file' number' e =
        let p = judge_facts id' file' number' (record_of id file number payload) e in
        (told p.store store_back, (told p.owner owner_back, (told p.place place_back, told p.size size_back)))

-- ---- what was read

judged : (o : Result Unit Error) (j : Option ℕ) (n : ℕ) → on_done o (Ok j) Err ≡ Ok (Some n) → (o ≡ Ok tt) × (j ≡ Some n)
unfolding on_done
judged (Ok tt) j n e = (refl, cc)
judged (Err x) j n e = absurd (let z : ◌≡◌ {A = ℕ} 0 1 = cc in omega arith)

-- a record that was read is a valid sector of the volume
pub read_judged : (vol : List ℕ) (m : Medium) (st : Store) (id chunk index number : ℕ) {n : ℕ} → read_record_of vol m st id chunk index number ≡ Ok (Some n)
    → (read_of m (data_at st chunk index) ≡ Ok tt) × (judge_of st.head.id id number (sector_at vol (data_at st chunk index)) ≡ Some n)
unfolding read_record_of
read_judged vol m st id chunk index number {n} e = judged (read_of m (data_at st chunk index)) (judge_of st.head.id id number (sector_at vol (data_at st chunk index))) n e

-- its payload is a part of the volume
pub payload_place : (vol : List ℕ) (k n : ℕ) → n ≤ 486 → payload_of (sector_at vol k) n ≡ part (512 * k + 22) n vol
unfolding payload_of sector_at
payload_place vol k n h = part_part (512 * k) 512 22 n vol (omega arith)
