-- What an entry that is read tells, and that an entry that is made is read back. Assumes nothing.
use mathlib.Core.Path.{◌≡◌, refl, sym, ap, ap₂, ◌∙◌, subst}
use mathlib.Core.Bool.{Bool, true, false, not, ◌&&◌}
use mathlib.Core.List.{List, ◌++◌}
use Prim.Native.Nat.{ℕ, ◌+◌, ◌-◌, ◌^◌, ◌<◌, ◌≤◌}
use native.Mathlib.Nat.{zero-add}
use native.Mathlib.Omega.{arith}
use borrow.Author.Tests.{eqb-false, ne_eqb, not-true}
use lib.Dec.{eqb}
use lib.ListN.{length, length-take}
use Rattle.std.specs.Prelude.{Option, None, Some, Result, Ok, Err}
use Rattle.le.specs.Choice.{pick}
use Rattle.le.specs.Field.{get_le}
use Rattle.le.specs.Part.{part, over, zeros}
use Rattle.le.proofs.Choices.{pick_keeps_by, pick_true, pick_false}
use Rattle.le.proofs.Fields.{length_put, get_put, put_before, put_after}
use Rattle.le.proofs.Parts.{length_over, length_zeros, part_add, part_over, part_after, part_zeros}
use Rattle.le.proofs.Bools.{and_true}
use Rattle.runs.specs.Run.{all_zero}
use Rattle.runs.proofs.Tests.{zeros_pass, zero_zeros}
use Rattle.names.specs.Names.{name_ok, text_len}
use Rattle.names.proofs.Laws.{text_short, name_some, name_short, name_padded}
use Rattle.medium.specs.declared.Error.{Error}
use Rattle.medium.specs.declared.Medium.{Medium}
use Rattle.medium.proofs.Laws.{on_done_keeps}
use Rattle.handles.specs.declared.Store.{Store}
use Rattle.directory.specs.declared.File.{File}
use Rattle.directory.specs.Entry.{entry_bytes, len_of, entry_ok, file_of, entry_of, entry_at, slot_at}

-- ---- what an entry tells

-- the entry e of a file
pub record Holds (e : List ℕ) (id len : ℕ) : Type 0 where
  pub some : id ≡ 0 → ⊥
  pub short : len ≤ 40
  pub whole : length (part 0 len e) ≡ len
  pub name : name_ok (part 0 len e) ≡ true

pub data Tells (e : List ℕ) : Result (Option File) Error → Type 0 where
  refused : {c : Error} → Tells e (Err c)
  free : Tells e (Ok None)
  file : {id len : ℕ} → Holds e id len → Tells e (file_of id len)

length_first : (n : ℕ) (e : List ℕ) → length (part 0 n e) ≤ n
unfolding part
length_first n e = omega (arith, length-take n e)

len_first : (n k : ℕ) (e : List ℕ) → n ≤ length (part 0 k e) → length (part 0 n e) ≡ n
unfolding part
len_first n k e h = omega (arith, length-take n e, length-take k e)

text_first : (e : List ℕ) → len_of e ≤ length (part 0 40 e)
unfolding len_of
text_first e = text_short (part 0 40 e)

ok_holds : (e : List ℕ) → entry_ok e ≡ true → Holds e (get_le 4 40 e) (len_of e)
unfolding entry_ok
ok_holds e h =
    let numbered : Bool = not (eqb (get_le 4 40 e) 0) in
    let padded : Bool = all_zero (part (len_of e) (40 - len_of e) e) in
    let a = and_true (name_ok (part 0 (len_of e) e)) (padded && (numbered && all_zero (part 44 20 e))) h in
    let b = and_true padded (numbered && all_zero (part 44 20 e)) a.1 in
    let d = and_true numbered (all_zero (part 44 20 e)) b.1 in
    record {
      some = eqb-false (get_le 4 40 e) 0 (not-true (eqb (get_le 4 40 e) 0) d.0);
      short = omega (arith, text_first e, length_first 40 e);
      whole = len_first (len_of e) 40 e (text_first e);
      name = a.0;
    }

entry_tells : (e : List ℕ) → Tells e (entry_of e)
unfolding entry_of
entry_tells e =
    pick_keeps_by (Tells e) (all_zero e) _ _ (λ _. free)
    (λ _. pick_keeps_by (Tells e) (entry_ok e) _ _ (λ ok. file (ok_holds e ok)) (λ _. refused))

slot_tells : (vol : List ℕ) (m : Medium) (st : Store) (i : ℕ) → Tells (entry_at vol st i) (slot_at vol m st i)
unfolding slot_at
slot_tells vol m st i = on_done_keeps (Tells (entry_at vol st i)) _ _ _ (λ _. entry_tells (entry_at vol st i)) (λ e _. refused)

-- what a call found at a slot; x is its answer
pub found_file : (vol : List ℕ) (m : Medium) (st : Store) (i : ℕ) {x : Result (Option File) Error} {id len : ℕ} → x ≡ slot_at vol m st i → x ≡ file_of id len → Holds (entry_at vol st i) id len
found_file vol m st i {id = id} {len = len} e q = out (subst (Tells (entry_at vol st i)) (sym e ∙ q) (slot_tells vol m st i))
  where
    out : Tells (entry_at vol st i) (file_of id len) → Holds (entry_at vol st i) id len
    out (file h) = h

-- the same of the call's answer, part by part
pub found_at_slot : (vol : List ℕ) (m : Medium) (st : Store) (i : ℕ) {x : Result (Option File) Error} {o : Option File} {f : File} → x ≡ slot_at vol m st i → x ≡ Ok o → o ≡ Some f
    → Holds (entry_at vol st i) f.id f.len
found_at_slot vol m st i e p q = found_file vol m st i e (p ∙ ap Ok q)

-- what is not refused is what the entry says
pub slot_entry : (vol : List ℕ) (m : Medium) (st : Store) (i : ℕ) (x : Result (Option File) Error) → ((e : Error) → Err e ≡ x → ⊥) → slot_at vol m st i ≡ x → entry_of (entry_at vol st i) ≡ x
unfolding slot_at
slot_entry vol m st i x passes =
    on_done_keeps (λ (y : Result (Option File) Error). y ≡ x → entry_of (entry_at vol st i) ≡ x) _ _ _ (λ _ q. q) (λ e _ q. absurd (passes e q))

module _ (vol : List ℕ) (m : Medium) (st : Store) (i : ℕ) where
  pub slot_file : {id len : ℕ} → slot_at vol m st i ≡ file_of id len → entry_of (entry_at vol st i) ≡ file_of id len
  slot_file {id = id} {len = len} = slot_entry vol m st i (file_of id len) (λ e q. let z : ◌≡◌ {A = ℕ} 0 1 = cc in omega arith)

  pub slot_free : slot_at vol m st i ≡ Ok None → entry_of (entry_at vol st i) ≡ Ok None
  slot_free = slot_entry vol m st i (Ok None) (λ e q. let z : ◌≡◌ {A = ℕ} 0 1 = cc in omega arith)

-- ---- an entry made, and cleared

pub entry_cleared : entry_of (zeros 64) ≡ Ok None
unfolding entry_of
entry_cleared = pick_true _ _ (zeros_pass 64)

len_cleared : len_of (zeros 64) ≡ 0
unfolding len_of zeros part text_len pick
len_cleared = refl

module _ (name : List ℕ) (id : ℕ) (short : length name ≤ 40) where
  room : 0 + length name ≤ length (zeros 64)
  room = rw (length_zeros 64) (omega arith)

  length_bare : length (over 0 name (zeros 64)) ≡ 64
  length_bare = length_over 0 name (zeros 64) room ∙ length_zeros 64

  fits : 40 + 4 ≤ length (over 0 name (zeros 64))
  fits = rw length_bare (omega arith)

  pub length_entry : length (entry_bytes name id) ≡ 64
  unfolding entry_bytes
  length_entry = length_put 4 40 id (over 0 name (zeros 64)) fits ∙ length_bare

  -- its name is there
  pub entry_name : part 0 (length name) (entry_bytes name id) ≡ name
  unfolding entry_bytes
  entry_name = put_before 4 40 id (over 0 name (zeros 64)) fits 0 (length name) (omega arith) ∙ part_over 0 name (zeros 64) room

  -- zeros follow it
  entry_pad : part (length name) (40 - length name) (entry_bytes name id) ≡ zeros (40 - length name)
  unfolding entry_bytes
  entry_pad =
      put_before 4 40 id (over 0 name (zeros 64)) fits (length name) (40 - length name) (omega arith)
      ∙ part_after 0 name (zeros 64) room (length name) (40 - length name) (omega arith)
      ∙ part_zeros (length name) (40 - length name) 64 (omega arith)

  entry_rest : part 44 20 (entry_bytes name id) ≡ zeros 20
  unfolding entry_bytes
  entry_rest =
      put_after 4 40 id (over 0 name (zeros 64)) fits 44 20 (omega arith)
      ∙ part_after 0 name (zeros 64) room 44 20 (omega arith)
      ∙ part_zeros 44 20 64 (omega arith)

  entry_id : id < 2 ^ 32 → get_le 4 40 (entry_bytes name id) ≡ id
  unfolding entry_bytes
  entry_id h = get_put 4 40 id (over 0 name (zeros 64)) fits h

  entry_text : part 0 40 (entry_bytes name id) ≡ name ++ zeros (40 - length name)
  entry_text =
      let e : 40 ≡ length name + (40 - length name) = omega arith in
      ap (λ (n : ℕ). part 0 n (entry_bytes name id)) e
      ∙ part_add 0 (length name) (40 - length name) (entry_bytes name id)
      ∙ ap₂ (λ (a b : List ℕ). a ++ b) entry_name (rw (zero-add (length name)) entry_pad)

module _ (name : List ℕ) (id : ℕ) (ok : name_ok name ≡ true) where
  short : length name ≤ 40
  short = name_short name ok

  entry_len : len_of (entry_bytes name id) ≡ length name
  unfolding len_of
  entry_len = ap text_len (entry_text name id short) ∙ name_padded name ok (40 - length name)

  not_cleared : all_zero (entry_bytes name id) ≡ false
  not_cleared = go (all_zero (entry_bytes name id)) refl
    where
      go : (b : Bool) → all_zero (entry_bytes name id) ≡ b → b ≡ false
      go false e = refl
      go true e =
          let cleared : entry_bytes name id ≡ zeros 64 = zero_zeros (entry_bytes name id) e ∙ ap zeros (length_entry name id short) in
          let none : len_of (entry_bytes name id) ≡ 0 = ap len_of cleared ∙ len_cleared in
          absurd (omega (arith, entry_len, name_some name ok))

  entry_ok_lem : (id ≡ 0 → ⊥) → id < 2 ^ 32 → entry_ok (entry_bytes name id) ≡ true
  unfolding entry_ok
  entry_ok_lem some small =
      rw (
        entry_len,
        entry_name name id short,
        ok,
        entry_pad name id short,
        zeros_pass (40 - length name),
        entry_id name id short small,
        ne_eqb id 0 some,
        entry_rest name id short,
        zeros_pass 20,
      )

  -- an entry that is made is read back
  pub entry_made : (id ≡ 0 → ⊥) → id < 2 ^ 32 → entry_of (entry_bytes name id) ≡ file_of id (length name)
  unfolding entry_of
  entry_made some small =
      pick_false _ _ not_cleared ∙ pick_true _ _ (entry_ok_lem some small)
      ∙ ap₂ file_of (entry_id name id short small) entry_len
