-- The view of a data sector against the judging of it, and of an entry against its id: a stored record is valid at its own file and number, with its
-- payload, and at no other. Assumes nothing.
use Rattle.std.specs.Prelude.{Option, Some, None}
use mathlib.Core.Path.{◌≡◌, refl, ap, sym, ◌∙◌}
use mathlib.Core.Bool.{Bool, true, not, ◌&&◌}
use mathlib.Core.Logic.{◌≢◌}
use mathlib.Core.List.{List}
use Prim.Native.Nat.{ℕ, ◌-◌, ◌≤◌}
use native.Mathlib.Omega.{arith}
use lib.Dec.{eqb}
use lib.ListN.{length}
use borrow.Author.Tests.{eqb-false, not-true}
use Rattle.std.specs.Prelude.{Option, None, Some, Result, Ok, Err}
use Rattle.medium.specs.declared.Error.{Error}
use Rattle.le.specs.Field.{get_le}
use Rattle.le.specs.Part.{part}
use Rattle.le.proofs.Choices.{pick_keeps_by, pick_true}
use Rattle.le.proofs.Parts.{length_part}
use Rattle.le.proofs.Bools.{and_true}
use Rattle.runs.specs.Run.{all_zero}
use Rattle.names.specs.Names.{name_ok}
use Rattle.directory.specs.declared.File.{File}
use Rattle.directory.specs.Entry.{len_of, entry_ok, file_of, entry_of}
use Rattle.record.specs.Record.{judge_of, carries_of, payload_of}
use Rattle.record.proofs.RoundTrip.{judge_facts, judge_carries, judge_length, carries_judge}
use Rattle.layout.specs.Views.{named, Rec, stored, entry_view, rec_view}

-- ---- a data sector

-- the parts of a stored record
pub record Stored (id : ℕ) (sector : List ℕ) (f k : ℕ) (x : List ℕ) : Type 0 where
  pub file : get_le 4 12 sector ≡ f
  pub number : get_le 4 16 sector ≡ k
  pub payload : payload_of sector (get_le 2 20 sector) ≡ x
  pub carries : carries_of id sector ≡ true

pub stored_parts : (id : ℕ) (sector : List ℕ) {f k : ℕ} {x : List ℕ} → rec_view id sector ≡ stored f k x → Stored id sector f k x
unfolding rec_view
stored_parts id sector {f} {k} {x} =
    pick_keeps_by (λ (r : Rec). r ≡ stored f k x → Stored id sector f k x) (carries_of id sector) _ _
    (λ t q. record { file = cc; number = cc; payload = cc; carries = t })
    (λ t q. absurd (let z : ◌≡◌ {A = ℕ} 0 1 = cc in omega arith))

-- what a stored record is judged at its own file and number
pub record Passed (id : ℕ) (sector : List ℕ) (f k : ℕ) (x : List ℕ) : Type 0 where
  pub valid : judge_of id f k sector ≡ Some (length x)
  pub payload : payload_of sector (length x) ≡ x
  pub least : 1 ≤ length x
  pub most : length x ≤ 486

pub stored_judged : (id : ℕ) (sector : List ℕ) {f k : ℕ} {x : List ℕ} → length sector ≡ 512 → rec_view id sector ≡ stored f k x → Passed id sector f k x
unfolding payload_of
stored_judged id sector {f} {k} {x} size e =
    let p : Stored id sector f k x = stored_parts id sector e in
    let j : judge_of id f k sector ≡ Some (get_le 2 20 sector) = rw (p.file, p.number) at (carries_judge id sector p.carries) in
    let b = judge_length id f k sector j in
    let n : length x ≡ get_le 2 20 sector = ap length (sym p.payload) ∙ length_part 22 (get_le 2 20 sector) sector (omega (arith, size, b.1)) in
    record { valid = rw n j; payload = rw n p.payload; least = rw n b.0; most = rw n b.1 }

-- and what is judged valid is stored
pub judged_stored : (id f k : ℕ) (sector : List ℕ) {n : ℕ} → judge_of id f k sector ≡ Some n → rec_view id sector ≡ stored f k (payload_of sector n)
unfolding rec_view
judged_stored id f k sector {n} e =
    let p = judge_facts id f k sector e in
    pick_true _ _ (judge_carries id f k sector e) ∙ rw (p.owner, p.place, p.size) refl

-- where no record of this file and number is stored, the sector is judged to be another
pub judged_other : (id f k : ℕ) (sector : List ℕ) → ((x : List ℕ) → rec_view id sector ≡ stored f k x → ⊥) → judge_of id f k sector ≡ None
unfolding judge_of
judged_other id f k sector none =
    pick_keeps_by (λ (j : Option ℕ). j ≡ None) _ _ _
    (λ t. absurd (none _ (judged_stored id f k sector (pick_true (Some (get_le 2 20 sector)) None t))))
    (λ t. refl)

-- ---- an entry

-- what the name and id of a file meet
pub record Named (name : List ℕ) (id : ℕ) : Type 0 where
  pub fine : name_ok name ≡ true
  pub some : id ≢ 0

ok_named : (e : List ℕ) {name : List ℕ} {id : ℕ} → entry_ok e ≡ true → entry_view e (file_of (get_le 4 40 e) (len_of e)) ≡ named name id → Named name id
unfolding entry_ok entry_view
ok_named e {name} {id} ok q =
    let n : part 0 (len_of e) e ≡ name = cc in
    let i : get_le 4 40 e ≡ id = cc in
    let padded : Bool = all_zero (part (len_of e) (40 - len_of e) e) in
    let numbered : Bool = not (eqb (get_le 4 40 e) 0) in
    let a = and_true (name_ok (part 0 (len_of e) e)) (padded && (numbered && all_zero (part 44 20 e))) ok in
    let b = and_true padded (numbered && all_zero (part 44 20 e)) a.1 in
    let c = and_true numbered (all_zero (part 44 20 e)) b.1 in
    record { fine = rw n at a.0; some = λ z. eqb-false (get_le 4 40 e) 0 (not-true _ c.0) (i ∙ z) }

pub named_facts : (e : List ℕ) {name : List ℕ} {id : ℕ} → entry_view e (entry_of e) ≡ named name id → Named name id
unfolding entry_of entry_view
named_facts e {name} {id} =
    pick_keeps_by Meets (all_zero e) _ _ (λ _ q. absurd (let z : ◌≡◌ {A = ℕ} 0 1 = cc in omega arith))
    (λ _. pick_keeps_by Meets (entry_ok e) _ _ (ok_named e) (λ _ q. absurd (let z : ◌≡◌ {A = ℕ} 0 1 = cc in omega arith)))
  where
    Meets : Result (Option File) Error → Type 0
    Meets x = entry_view e x ≡ named name id → Named name id
