-- Edits: what one that fits tells, by its case; a sector written whole, and an entry in its place. Assumes nothing.
use mathlib.Core.Path.{◌≡◌, sym, ◌∙◌}
use mathlib.Core.Bool.{Bool}
use mathlib.Core.List.{List, ◌++◌}
use Prim.Native.Nat.{ℕ, ◌+◌, ◌-◌, ◌*◌, ◌%◌, ◌^◌, ◌≤◌, ◌<◌}
use native.Mathlib.Nat.{add-sub_cancel_left}
use lib.ListN.{length, take, drop}
use Rattle.le.specs.Part.{over, zeros}
use Rattle.le.proofs.Parts.{length_zeros, over_back, over_whole}
use Rattle.directory.specs.Entry.{entry_bytes}
use Rattle.directory.proofs.Entries.{length_entry}
use Rattle.plan.specs.declared.Edit.{Edit}
use Rattle.plan.specs.declared.Edit.TheVariants.{Create, Extend, Remove}
use Rattle.plan.specs.Edit.{Fits}

pub create_fits : {e : Edit} {slot id chunk : ℕ} (chunks : ℕ) → e ≡ Create slot id chunk → Fits e chunks → (slot < 64) × (id + 1 < 2 ^ 32) × (chunk < chunks)
create_fits chunks q f = rw q at f

pub extend_fits : {e : Edit} {slot position next last : ℕ} {partial : Bool} {records : ℕ} (chunks : ℕ) → e ≡ Extend slot position next last partial records → Fits e chunks
    → (slot < 64) × (position + 1 < 32768) × (next < chunks) × (last < chunks) × (records < 512)
extend_fits chunks q f = rw q at f

pub remove_fits : {e : Edit} {slot : ℕ} (chunks : ℕ) → e ≡ Remove slot → Fits e chunks → slot < 64
remove_fits chunks q f = rw q at f

-- a sector of zeros written over whole
pub zeroed : (l : List ℕ) → length l ≡ 512 → over 0 (zeros 512) l ≡ zeros 512
zeroed l e = over_whole (zeros 512) l (length_zeros 512 ∙ sym e)

-- an entry made in its place of a sector
pub entry_back : (slot id : ℕ) (name s : List ℕ) {e : List ℕ} → length name ≤ 40 → e ≡ entry_bytes name id
    → take (64 * (slot % 8)) s ++ (e ++ drop (64 * (slot % 8) + 64 - 64 * (slot % 8)) (drop (64 * (slot % 8)) s)) ≡ over (64 * (slot % 8)) (entry_bytes name id) s
entry_back slot id name s short q =
    let n : length (entry_bytes name id) ≡ 64 * (slot % 8) + 64 - 64 * (slot % 8) = length_entry name id short ∙ sym (add-sub_cancel_left (64 * (slot % 8)) 64) in
    rw q (over_back (64 * (slot % 8)) (64 * (slot % 8) + 64) (entry_bytes name id) s n)
