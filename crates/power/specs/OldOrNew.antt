-- 02, S-7, beside demand 3: a format on any volume of bytes that has a store. Whatever the size, the seed and the medium record, and so after a stop at
-- any of its writes, a mount gives the old store or the new, and the answer tells which. No history comes before it. Assumes nothing.
use Rattle.std.specs.Prelude.{Ok}
use Rattle.std.specs.Prelude.{ℕ, ◌≤◌, ◌<◌, ◌≡◌, true, false, ◌||◌, List, get_or}
use Rattle.medium.specs.declared.Medium.{Medium}
use Rattle.medium.specs.Refusal.{ok, refused}
use Rattle.medium.specs.Sector.{sector_at, read_of}
use Rattle.handles.specs.declared.Store.{Store}
use Rattle.handles.specs.Body.{body_at}
use Rattle.header.specs.Copies.{is_ours, is_foreign, copy_of}
use Rattle.reader.specs.declared.Reader.{Reader}
use Rattle.reader.specs.Calls.{next_call, seek_call}
use Rattle.store.specs.Reading.{filled_of, mount_call, find_call, list_call, reader_call}
use Rattle.store.specs.Writing.{WriteCall, format_call}

-- both header sectors read
abbrev pub HeadersRead : Medium → Type 0
HeadersRead u = (read_of u 0 ≡ Ok tt) × (read_of u 32 ≡ Ok tt)

-- mount gives this store, by every medium record with which both header sectors read; by S-3 with the map that its table then gives
abbrev pub MountGives : List ℕ → Store → Type 0
MountGives vol st = (u : Medium) → HeadersRead u → mount_call vol u ≡ record { answer = ok tt; store = filled_of vol u st; medium = u }

-- demand 3's queries give on v what they gave on vol
pub record SameReadings (vol v : List ℕ) (st : Store) : Type 0 where
  pub list : (m : Medium) (dir counts rows : List ℕ) → list_call v m st dir counts rows ≡ list_call vol m st dir counts rows
  pub find : (m : Medium) (name : List ℕ) → find_call v m st name ≡ find_call vol m st name
  pub reader : (m : Medium) (name : List ℕ) → reader_call v m st name ≡ reader_call vol m st name
  pub next : (m : Medium) (rd : Reader) (out : List ℕ) → next_call v m st rd out ≡ next_call vol m st rd out
  pub seek : (m : Medium) (rd : Reader) (number : ℕ) → seek_call v m st rd number ≡ seek_call vol m st rd number

-- the old store on v, which was vol: mount gives it, its body sectors and every data sector hold the bytes that they held, and it reads as it did
pub record OldStore (vol v : List ℕ) (st : Store) : Type 0 where
  pub mounts : MountGives v st
  pub body : (k : ℕ) → k < 24 → sector_at v (body_at st k) ≡ sector_at vol (body_at st k)
  pub records : (j : ℕ) → 64 ≤ j → sector_at v j ≡ sector_at vol j
  pub readings : SameReadings vol v st

-- refused, with whichever number, a format leaves the old store; accepted, the one that it answers
pub record OldOrNew (vol : List ℕ) (st : Store) (c : WriteCall) : Type 0 where
  pub old : (n : ℕ) → c.call.answer ≡ refused n → OldStore vol c.vol st
  pub new : c.call.answer ≡ ok tt → MountGives c.vol c.call.store

-- the claim: on every volume of bytes on which a mount is accepted
abbrev pub AfterFormat : Type 0
AfterFormat =
    (vol : List ℕ) (u m : Medium) (size seed : ℕ)
    → ((k : ℕ) → get_or vol k 0 < 256)
    → (mount_call vol u).answer ≡ ok tt
    → OldOrNew vol (mount_call vol u).store (format_call vol m size seed)

-- 02's words for such a volume: at least one header copy is valid and none foreign. A mount that reads both headers is accepted there
pub record OneValid (vol : List ℕ) : Type 0 where
  pub valid : (is_ours (copy_of vol 0).kind || is_ours (copy_of vol 32).kind) ≡ true
  pub known_a : is_foreign (copy_of vol 0).kind ≡ false
  pub known_b : is_foreign (copy_of vol 32).kind ≡ false

abbrev pub ValidMounts : Type 0
ValidMounts = (vol : List ℕ) (u : Medium) → HeadersRead u → OneValid vol → (mount_call vol u).answer ≡ ok tt
