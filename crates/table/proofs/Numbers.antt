-- Laws of a link: what its numbers tell, its two numbers and 4 bytes both ways, and where its bytes stand in the volume. Assumes nothing.
use Rattle.std.specs.Prelude.{Err, Ok, Result}
use mathlib.Core.Path.{◌≡◌, refl, sym, ap, ap₂, ◌∙◌, subst}
use mathlib.Core.Bool.{Bool, true, false, ◌&&◌, ◌||◌}
use mathlib.Core.List.{List}
use Prim.Native.Nat.{ℕ, ◌+◌, ◌-◌, ◌*◌, ◌/◌, ◌%◌, ◌≤◌, ◌<◌}
use native.Mathlib.Nat.{add-sub_cancel}
use native.Mathlib.Omega.{arith}
use borrow.Author.Tests.{leb-true, ltb-true, eqb-true, lt-ltb, le-leb, lt-leb, eq-eqb, ne_eqb}
use lib.Dec.{eqb, leb, ltb}
use lib.ListN.{length, length-append}
use Rattle.le.specs.Choice.{pick}
use Rattle.le.specs.Part.{part, over, zeros}
use Rattle.le.specs.Field.{le_number, le_bytes, get_le, put_le}
use Rattle.le.proofs.Choices.{pick_keeps_by, pick_true, pick_false}
use Rattle.le.proofs.Parts.{part_part, part_over, over_over}
use Rattle.le.proofs.Fields.{length_bytes}
use Rattle.le.proofs.Bools.{and_true, or_right}
use Rattle.medium.specs.declared.Error.{Error}
use Rattle.medium.specs.declared.Medium.{Medium}
use Rattle.medium.specs.Refusal.{on_done}
use Rattle.medium.specs.Sector.{sector_at}
use Rattle.medium.proofs.Laws.{on_done_keeps}
use Rattle.handles.specs.declared.Store.{Store}
use Rattle.handles.specs.Handles.{base_of}
use Rattle.handles.specs.Body.{body_at, due_of}
use Rattle.table.specs.declared.Link.{Link}
use Rattle.table.specs.declared.LinkAt.{LinkAt}
use Rattle.table.specs.declared.LinkAt.TheVariants.{Past, Free, Linked}
use Rattle.table.specs.Link.{owner_of, place_of, link_bytes, link_fits, link_of, link_in, link_part, link_at, owned_by}

-- ---- what is found

-- a link that a chunk of so many sectors may have
pub record Sound (l : Link) (size : ℕ) : Type 0 where
  pub slot : l.slot < 64
  pub position : l.position < 32768
  pub records : l.records < size
  pub whole : l.partial ≡ false → l.records ≡ 0

-- what an answer tells of the low 7 bits and of the chunk
pub data Said (low : ℕ) (inside : Bool) (size : ℕ) : Result LinkAt Error → Type 0 where
  refused : {e : Error} → Said low inside size (Err e)
  past : low ≡ 0 → Said low inside size (Ok Past)
  free : low ≡ 0 → inside ≡ true → Said low inside size (Ok Free)
  linked : {l : Link} → low ≡ l.slot + 1 → inside ≡ true → Sound l size → Said low inside size (Ok (Linked l))

pub fits_sound : (owner place size : ℕ) → link_fits owner place size ≡ true
    → Sound (record { slot = owner % 128 - 1; position = place % 32768; partial = leb 32768 place; records = owner / 128 }) size
unfolding link_fits
fits_sound owner place size e =
    let a = and_true (leb 1 (owner % 128) && leb (owner % 128) 64) (ltb (owner / 128) size && (leb 32768 place || eqb (owner / 128) 0)) e in
    let b = and_true (leb 1 (owner % 128)) (leb (owner % 128) 64) a.0 in
    let d = and_true (ltb (owner / 128) size) (leb 32768 place || eqb (owner / 128) 0) a.1 in
    record {
      slot = omega (arith, leb-true 1 (owner % 128) b.0, leb-true (owner % 128) 64 b.1);
      position = omega arith;
      records = ltb-true _ _ d.0;
      whole = λ q. eqb-true _ _ (or_right _ _ d.1 q);
    }

-- its slot + 1 is no 0
pub low_least : (inside : Bool) (owner place size : ℕ) → (inside && link_fits owner place size) ≡ true → 1 ≤ owner % 128
unfolding link_fits
low_least inside owner place size e = leb-true _ _ (and_true _ (leb (owner % 128) 64) (and_true (leb 1 (owner % 128) && leb (owner % 128) 64) _ (and_true inside _ e).1).0).0

pub link_said : (owner place : ℕ) (inside : Bool) (size : ℕ) → Said (owner % 128) inside size (link_of owner place inside size)
unfolding link_of
link_said owner place inside size =
    pick_keeps_by (Said (owner % 128) inside size) (eqb owner 0 && eqb place 0) _ _
    (λ z.
    let e : owner ≡ 0 = eqb-true _ _ (and_true (eqb owner 0) (eqb place 0) z).0 in
    let low : owner % 128 ≡ 0 = omega arith in
    pick_keeps_by (Said (owner % 128) inside size) inside (Ok Free) (Ok Past) (free low) (λ q. past low))
    (λ z.
    pick_keeps_by (Said (owner % 128) inside size) (inside && link_fits owner place size) _ _
    (λ t.
    let a = and_true inside (link_fits owner place size) t in
    let b : 1 ≤ owner % 128 = low_least inside owner place size t in
    linked (omega arith) a.0 (fits_sound owner place size a.1))
    (λ q. refused))

module _ (vol : List ℕ) (m : Medium) (st : Store) (c : ℕ) where
  abbrev Told : Result LinkAt Error → Type 0
  Told = Said (get_le 2 0 (link_part vol st c) % 128) (ltb c st.head.chunks) st.head.chunk

  links_said : Told (link_at vol m st c)
  unfolding link_at link_in
  links_said = on_done_keeps Told _ _ _ (λ q. link_said _ _ _ _) (λ e q. refused)

  -- what a call at c found
  pub found_free : {x : Result LinkAt Error} → x ≡ link_at vol m st c → x ≡ Ok Free → c < st.head.chunks
  found_free e q = out (subst Told (sym e ∙ q) links_said)
    where
      out : Told (Ok Free) → c < st.head.chunks
      out (free z h) = ltb-true _ _ h

  pub found_link : {x : Result LinkAt Error} {l : Link} → x ≡ link_at vol m st c → x ≡ Ok (Linked l) → (c < st.head.chunks) × Sound l st.head.chunk
  found_link {l = l} e q = out (subst Told (sym e ∙ q) links_said)
    where
      out : Told (Ok (Linked l)) → (c < st.head.chunks) × Sound l st.head.chunk
      out (linked o h s) = (ltb-true _ _ h, s)

  -- and so its slot is one of the 64
  pub linked_slot : {r : Result LinkAt Error} {x : LinkAt} {l : Link} → r ≡ link_at vol m st c → r ≡ Ok x → x ≡ Linked l → l.slot < 64
  linked_slot e f q = (found_link e (f ∙ ap Ok q)).1.slot

-- ---- both ways

module _ (l : Link) (size : ℕ) (s : Sound l size) where
  owner_low : owner_of l % 128 ≡ l.slot + 1
  unfolding owner_of
  owner_low = omega arith

  owner_high : owner_of l / 128 ≡ l.records
  unfolding owner_of
  owner_high = omega arith

  place_low : place_of l % 32768 ≡ l.position
  unfolding place_of
  place_low = pick_keeps_by (λ (n : ℕ). (l.position + n) % 32768 ≡ l.position) l.partial 32768 0 (λ q. omega arith) (λ q. omega arith)

  place_mark : leb 32768 (place_of l) ≡ l.partial
  unfolding place_of
  place_mark =
      pick_keeps_by (λ (n : ℕ). leb 32768 (l.position + n) ≡ l.partial) l.partial 32768 0
      (λ q. le-leb 32768 (l.position + 32768) (omega arith) ∙ sym q)
      (λ q. lt-leb 32768 (l.position + 0) (omega arith) ∙ sym q)

  some_owner : (eqb (owner_of l) 0 && eqb (place_of l) 0) ≡ false
  unfolding owner_of
  some_owner = rw (ne_eqb (l.slot + 1 + 128 * l.records) 0 (λ q. omega arith))

  marked_or_none : (b : Bool) → l.partial ≡ b → (b || eqb l.records 0) ≡ true
  marked_or_none true q = refl
  marked_or_none false q = eq-eqb _ _ (s.whole q)

  fits_back : link_fits (owner_of l) (place_of l) size ≡ true
  unfolding link_fits
  fits_back =
      rw (owner_low, owner_high, place_mark, le-leb 1 (l.slot + 1) (omega arith), le-leb (l.slot + 1) 64 (omega arith), lt-ltb l.records size s.records)
      (marked_or_none l.partial refl)

  -- the numbers of a link are read as the link
  pub link_back : link_of (owner_of l) (place_of l) true size ≡ Ok (Linked l)
  unfolding link_of
  link_back =
      pick_false _ _ some_owner ∙ pick_true _ _ fits_back
      ∙ rw (owner_low, owner_high, place_low, place_mark, add-sub_cancel)

-- and so are its bytes
module _ (l : Link) (size : ℕ) (s : Sound l size) (most : size ≤ 512) where
  owner_got : get_le 2 0 (link_bytes l) ≡ owner_of l
  unfolding get_le part link_bytes le_bytes le_number owner_of
  owner_got = omega arith

  place_most : place_of l < 65536
  unfolding place_of
  place_most = pick_keeps_by (λ (n : ℕ). l.position + n < 65536) l.partial 32768 0 (λ q. omega arith) (λ q. omega arith)

  place_got : get_le 2 2 (link_bytes l) ≡ place_of l
  unfolding get_le part link_bytes le_bytes le_number
  place_got = let h = place_most in omega arith

  pub link_bytes_lem : link_in (link_bytes l) true size ≡ Ok (Linked l)
  unfolding link_in
  link_bytes_lem = ap₂ (λ (x y : ℕ). link_of x y true size) owner_got place_got ∙ link_back l size s

pub length_link : (l : Link) → length (link_bytes l) ≡ 4
unfolding link_bytes
length_link l = rw (length-append, length_bytes 2 (owner_of l), length_bytes 2 (place_of l))

-- a link is written as its two numbers
pub link_put_lem : (k : Link) (at : ℕ) (l : List ℕ) → at + 4 ≤ length l → put_le 2 (at + 2) (place_of k) (put_le 2 at (owner_of k) l) ≡ over at (link_bytes k) l
unfolding put_le link_bytes
link_put_lem k at l h =
    let a : length (le_bytes 2 (owner_of k)) ≡ 2 = length_bytes 2 (owner_of k) in
    let b : length (le_bytes 2 (place_of k)) ≡ 2 = length_bytes 2 (place_of k) in
    ap (λ (n : ℕ). over (at + n) (le_bytes 2 (place_of k)) (over at (le_bytes 2 (owner_of k)) l)) (sym a) ∙ over_over at (le_bytes 2 (owner_of k)) (le_bytes 2 (place_of k)) l (omega arith)

-- and read back from the sector in which it was written
pub link_written : (k : Link) (size c : ℕ) (l : List ℕ) → Sound k size → size ≤ 512 → length l ≡ 512 → link_in (part (4 * (c % 128)) 4 (over (4 * (c % 128)) (link_bytes k) l)) true size ≡ Ok (Linked k)
link_written k size c l s most long =
    let e : length (link_bytes k) ≡ 4 = length_link k in
    let room : 4 * (c % 128) + length (link_bytes k) ≤ length l = omega arith in
    ap (λ (n : ℕ). link_in (part (4 * (c % 128)) n (over (4 * (c % 128)) (link_bytes k) l)) true size) (sym e)
    ∙ ap (λ (b : List ℕ). link_in b true size) (part_over (4 * (c % 128)) (link_bytes k) l room)
    ∙ link_bytes_lem k size s most

-- a zero link
pub link_zero : (inside : Bool) (size : ℕ) → link_in (zeros 4) inside size ≡ pick inside (Ok Free) (Ok Past)
unfolding link_in link_of get_le le_number part zeros pick
link_zero inside size = refl

-- ---- in the volume

-- a field of a link is a field of the volume
pub link_field : (vol : List ℕ) (st : Store) (c at o : ℕ) → at ≡ 512 * (base_of st.copy + 9) + 4 * c + o → o + 2 ≤ 4 → get_le 2 at vol ≡ get_le 2 o (link_part vol st c)
unfolding get_le link_part sector_at
link_field vol st c at o e h =
    let a : ℕ = 512 * body_at st (8 + c / 128) in
    let b : ℕ = 4 * (c % 128) in
    let f : at ≡ a + (b + o) = omega arith in
    ap le_number (ap (λ (k : ℕ). part k 2 vol) f ∙ sym (part_part b 4 o 2 (part a 512 vol) h ∙ part_part a 512 (b + o) 2 vol (omega arith)))

pub link_owned : (vol : List ℕ) (st : Store) (c slot : ℕ) {at owner : ℕ} → at ≡ 512 * (base_of st.copy + 9) + 4 * c → owner ≡ get_le 2 at vol
    → eqb (owner % 128) (slot + 1) ≡ owned_by slot (link_part vol st c)
unfolding owned_by
link_owned vol st c slot {at} e f = ap (λ (x : ℕ). eqb (x % 128) (slot + 1)) (f ∙ link_field vol st c at 0 (omega arith) (omega arith))

module _ (vol : List ℕ) (m : Medium) (st : Store) (c : ℕ) {o : Result Unit Error} (asked : o ≡ due_of vol m st (eqb (c % 128) 0) (8 + c / 128)) where
  pub link_refused : {e : Error} → o ≡ Err e → Err e ≡ link_at vol m st c
  unfolding link_at on_done
  link_refused q = rw (← asked, q)

  pub link_read : {r : Result LinkAt Error} {at owner place : ℕ} → o ≡ Ok tt → at ≡ 512 * (base_of st.copy + 9) + 4 * c → owner ≡ get_le 2 at vol → place ≡ get_le 2 (at + 2) vol
      → r ≡ link_of owner place (ltb c st.head.chunks) st.head.chunk → r ≡ link_at vol m st c
  unfolding link_at on_done link_in
  link_read {at = at} q f g h k =
      let u = g ∙ link_field vol st c at 0 (omega arith) (omega arith) in
      let w = h ∙ link_field vol st c (at + 2) 2 (omega arith) (omega arith) in
      k ∙ ap₂ (λ (x y : ℕ). link_of x y (ltb c st.head.chunks) st.head.chunk) u w ∙ rw (← asked, q)
