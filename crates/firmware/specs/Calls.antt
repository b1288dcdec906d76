-- 01, "Hosts", the calls of C firmware: each takes the volume, the three medium numbers (token 0) and its arguments, tests the arguments (2, then 1),
-- mounts unless it is format, keeps counts in a local array, and returns the refusal number, or 256 plus the answer. Assumes nothing.
use Rattle.std.specs.Prelude.{ℕ, ◌+◌, List, ltb, length}
use Rattle.le.specs.Choice.{pick}
use Rattle.le.specs.Part.{zeros}
use Rattle.names.specs.Names.{name_ok, dir_ok}
use Rattle.medium.specs.declared.Error.TheVariants as no
use Rattle.medium.specs.declared.Medium.{Medium}
use Rattle.medium.specs.Refusal.{Answer, ok, refused, number_of, on_ok}
use Rattle.store.specs.Reading.{StoreCall, mount_call, ListCall, list_call}
use Rattle.store.specs.Writing.{WriteCall, format_call, delete_call}

-- the refusal number, or 256 plus the answer
abbrev pub code_of : Answer ℕ → ℕ
code_of (ok n) = 256 + n
code_of (refused n) = n

-- where a call is accepted, n is its answer
abbrev pub giving : Answer Unit → ℕ → Answer ℕ
giving (ok _) n = ok n
giving (refused e) n = refused e

-- the three medium numbers (token 0)
abbrev pub medium_of : ℕ → ℕ → ℕ → Medium
medium_of left unreadable entropy = record { left = left; unreadable = unreadable; entropy = entropy; token = 0 }

-- ---- mount and format: chunks

abbrev pub chunks_told : StoreCall → ℕ
chunks_told r = code_of (giving r.answer r.store.head.chunks)

unfoldable pub mount_host : List ℕ → Medium → ℕ
mount_host vol m = chunks_told (mount_call vol m)

-- the number, and the volume after it
unfoldable pub format_host : List ℕ → Medium → ℕ → ℕ → ℕ × List ℕ
format_host vol m size seed = let r : WriteCall = format_call vol m size seed in (chunks_told r.call, r.vol)

-- ---- delete: 0

abbrev pub delete_told : WriteCall → ℕ × List ℕ
delete_told r = (code_of (giving r.call.answer 0), r.vol)

-- the number, and the volume after it: 1, then mount, then delete on the store mounted
unfoldable pub delete_host : List ℕ → Medium → List ℕ → ℕ × List ℕ
delete_host vol m name =
    let s : StoreCall = mount_call vol m in
    pick (name_ok name)
    (on_ok s.answer (λ _. delete_told (delete_call vol s.medium s.store name)) (λ n. (n, vol)))
    (number_of no.Name, vol)

-- ---- list: rows

abbrev pub list_told : ListCall → ℕ × List ℕ
list_told r = (code_of (giving r.answer r.made), r.rows)

-- the number, and the rows after it: 2, then 1, then mount, then list on the store mounted, over 64 counts
unfoldable pub list_host : List ℕ → Medium → List ℕ → List ℕ → ℕ × List ℕ
list_host vol m dir rows =
    let s : StoreCall = mount_call vol m in
    pick (ltb (length rows) 3072) (number_of no.Range, rows)
    (pick (dir_ok dir)
    (on_ok s.answer (λ _. list_told (list_call vol s.medium s.store dir (zeros 64) rows)) (λ n. (n, rows)))
    (number_of no.Name, rows))
