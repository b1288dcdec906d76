-- 01, "Edges": the starred rows, made of the definitions. One statement has them all; proofs/Starred proves it. Assumes nothing.
use Rattle.std.specs.Prelude.{None}
use Rattle.std.specs.Prelude.{Ok}
use Rattle.std.specs.Prelude.{ℕ, ◌+◌, ◌-◌, ◌/◌, ◌^◌, ◌≤◌, ◌<◌, ◌≡◌, Bool, true, false, List, [], ◌∷◌, ◌++◌, length, replicate}
use Rattle.le.specs.Part.{zeros}
use Rattle.names.specs.Names.{name_ok, dir_ok, in_dir}
use Rattle.medium.specs.declared.Medium.{Medium}
use Rattle.medium.specs.Refusal.{ok, refused}
use Rattle.medium.specs.Sector.{sectors_of, read_of}
use Rattle.freemap.specs.Map.{unfit_of}
use Rattle.handles.specs.declared.Header.{Header}
use Rattle.handles.specs.declared.Store.{Store}
use Rattle.handles.specs.Handles.{store_ok}
use Rattle.header.specs.Header.{ours}
use Rattle.header.specs.Copies.{copy_of, headers_of}
use Rattle.table.specs.Link.{link_bytes}
use Rattle.plan.specs.Copy.{Step, recorded}
use Rattle.format.specs.Format.{newest_of}
use Rattle.append.specs.declared.Appender.{Appender}
use Rattle.append.specs.declared.Tail.TheVariants.{At}
use Rattle.append.specs.Calls.{may_write, AppCall, append_call, room_call}
use Rattle.store.specs.Reading.{filled_of, mount_call, find_call, list_call, reader_call}
use Rattle.store.specs.Writing.{format_call, delete_call, oldest_call}
use Rattle.store.specs.Opening.{create_call, open_call}

-- n bytes `a`
abbrev pub letters : ℕ → List ℕ
letters n = replicate n 97

-- the step of a record, which is no commit
abbrev pub a_record : Step
a_record = record { kind = recorded; skipped = [] }

-- an accepted append that wrote so many records, each of them one of the medium's writes, and the bytes until the next
abbrev pub Wrote : Medium → AppCall → ℕ → ℕ → Type 0
Wrote m c records room =
    (c.call.answer ≡ ok tt) × (c.steps ≡ replicate records a_record) × (c.call.medium.left + records ≡ m.left) × (room_call c.call.appender ≡ ok room)

-- an appender that may write, with nothing unwritten in its 486 bytes, room in its chunk, and a write left
pub record Ready (vol : List ℕ) (m : Medium) (st : Store) (ap : Appender) : Type 0 where
  pub may : may_write vol st ap ≡ Ok tt
  pub empty : ap.fill ≡ 0
  pub size : length ap.buffer ≡ 486
  pub index : ℕ
  pub at : ap.tail ≡ At index
  pub room : index < st.head.chunk
  pub left : 1 ≤ m.left

-- every call that takes a name refuses this one with 1
pub record NameRefused (vol : List ℕ) (m : Medium) (st : Store) (name : List ℕ) : Type 0 where
  pub create : (rolls : Bool) (dir : List ℕ) → (create_call vol m st name rolls dir).call.answer ≡ refused 1
  pub open_append_lem : (rolls : Bool) (dir : List ℕ) → (open_call vol m st name rolls dir).call.answer ≡ refused 1
  pub find : (find_call vol m st name).answer ≡ refused 1
  pub reader : (reader_call vol m st name).answer ≡ refused 1
  pub delete : (delete_call vol m st name).call.answer ≡ refused 1

-- every call that takes a directory refuses this one with 1: create and open_append where it is their rollover's, list where its buffers are long enough,
-- since 2 comes first
pub record DirRefused (vol : List ℕ) (m : Medium) (st : Store) (dir : List ℕ) : Type 0 where
  pub create : (name : List ℕ) → (create_call vol m st name true dir).call.answer ≡ refused 1
  pub open_append_lem : (name : List ℕ) → (open_call vol m st name true dir).call.answer ≡ refused 1
  pub delete_oldest_lem : (oldest_call vol m st dir).call.answer ≡ refused 1
  pub list : (counts rows : List ℕ) → 64 ≤ length counts → 3072 ≤ length rows → (list_call vol m st dir counts rows).answer ≡ refused 1

pub record Starred : Type 0 where
  -- empty name: 1; empty directory: root
  pub empty_name : name_ok [] ≡ false
  pub root : dir_ok [] ≡ true
  pub root_all : (name : List ℕ) → in_dir [] name ≡ true
  -- `/`, `a//b`: 1
  pub slash : name_ok (47 ∷ []) ≡ false
  pub slash_dir : dir_ok (47 ∷ []) ≡ false
  pub double : name_ok (97 ∷ 47 ∷ 47 ∷ 98 ∷ []) ≡ false
  -- 40 bytes pass, 41 do not; a directory's `/` is within the 40
  pub forty : name_ok (letters 40) ≡ true
  pub forty_one : name_ok (letters 41) ≡ false
  pub forty_dir : dir_ok (letters 39 ++ (47 ∷ [])) ≡ true
  pub forty_one_dir : dir_ok (letters 40 ++ (47 ∷ [])) ≡ false
  -- and that is 1: a name or a directory that fails its rule, of a store value that passes
  pub bad_name : (vol : List ℕ) (m : Medium) (st : Store) (name : List ℕ) → store_ok st (sectors_of vol) ≡ true → name_ok name ≡ false
      → NameRefused vol m st name
  pub bad_dir : (vol : List ℕ) (m : Medium) (st : Store) (dir : List ℕ) → store_ok st (sectors_of vol) ≡ true → dir_ok dir ≡ false
      → DirRefused vol m st dir
  -- size 512, S 575: 2; 576: one chunk
  pub small : (vol : List ℕ) (m : Medium) (seed : ℕ) → (headers_of vol m).outcome ≡ Ok tt → sectors_of vol ≡ 575
      → (format_call vol m 512 seed).call.answer ≡ refused 2
  pub enough : (vol : List ℕ) (m : Medium) (seed : ℕ) → (headers_of vol m).outcome ≡ Ok tt → sectors_of vol ≡ 576
      → (newest_of (headers_of vol m) ≡ 2 ^ 64 - 1 → ⊥) → 11 ≤ m.left
      → ((format_call vol m 512 seed).call.answer ≡ ok tt) × ((format_call vol m 512 seed).call.store.head.chunks ≡ 1)
  -- slot 2, position 3, 5 records partial: bytes 83 02 03 80 hexadecimal
  pub link : link_bytes (record { slot = 2; position = 3; partial = true; records = 5 }) ≡ 0x83 ∷ 0x02 ∷ 0x03 ∷ 0x80 ∷ []
  -- appending 485, 486, 487 bytes: 0, 1, 1 records; 1, 486, 485 until the next
  pub append_485 : (vol : List ℕ) (m : Medium) (st : Store) (ap : Appender) (bytes : List ℕ) → Ready vol m st ap → length bytes ≡ 485
      → Wrote m (append_call vol m st ap bytes) 0 1
  pub append_486 : (vol : List ℕ) (m : Medium) (st : Store) (ap : Appender) (bytes : List ℕ) → Ready vol m st ap → length bytes ≡ 486
      → Wrote m (append_call vol m st ap bytes) 1 486
  pub append_487 : (vol : List ℕ) (m : Medium) (st : Store) (ap : Appender) (bytes : List ℕ) → Ready vol m st ap → length bytes ≡ 487
      → Wrote m (append_call vol m st ap bytes) 1 485
  -- zeroed volume: mount 5
  pub zeroed : (n : ℕ) (m : Medium) → 64 ≤ n / 512 → read_of m 0 ≡ Ok tt → read_of m 32 ≡ Ok tt → (mount_call (zeros n) m).answer ≡ refused 5
  -- equal generations: mount A
  pub equal : (vol : List ℕ) (m : Medium) → 64 ≤ sectors_of vol → read_of m 0 ≡ Ok tt → read_of m 32 ≡ Ok tt → (x y : Header)
      → copy_of vol 0 ≡ ours x → copy_of vol 32 ≡ ours y → x.generation ≡ y.generation
      → mount_call vol m ≡ record { answer = ok tt; store = filled_of vol m (record { copy = 0; head = x; writer = None; free = unfit_of }); medium = m }
