-- S-3: the store value of an accepted mount passes refusal 3 with its map, and the map tells its table. It hangs on the copy and its header alone.
-- Assumes nothing.
use Rattle.std.specs.Prelude.{Ok}
use mathlib.Core.Path.{◌≡◌}
use mathlib.Core.Bool.{true}
use mathlib.Core.List.{List}
use Prim.Native.Nat.{ℕ}
use lib.Dec.{ltb}
use Rattle.le.proofs.Bools.{and_true}
use Rattle.medium.specs.declared.Medium.{Medium}
use Rattle.medium.specs.Sector.{sectors_of}
use Rattle.medium.proofs.Laws.{on_done_done}
use Rattle.handles.specs.declared.Store.{Store}
use Rattle.handles.specs.Body.{check_of, due_of}
use Rattle.handles.specs.Handles.{sane_of, store_ok}
use Rattle.handles.proofs.Laws.{Held, store_facts, store_ok_lem}
use Rattle.header.specs.Copies.{mount_of}
use Rattle.header.proofs.Accepted.{mount_ok}
use Rattle.table.specs.Link.{link_part, link_at}
use Rattle.table.specs.Free.{map_at}
use Rattle.table.proofs.Tells.{Mapped, Fair, mount_fair}
use Rattle.store.specs.Reading.{filled_of, mount_call}

-- the map of a table is that of every store value with the same copy and header
pub map_again : (vol : List ℕ) (m : Medium) (st su : Store) → su.copy ≡ st.copy → su.head ≡ st.head → map_at vol m su ≡ map_at vol m st
unfolding map_at link_at link_part due_of check_of
map_again vol m st su a b = rw (a, b)

module _ (vol : List ℕ) (m : Medium) (accepted : (mount_of vol m).outcome ≡ Ok tt) where
  abbrev st : Store
  st = (mount_of vol m).store

  held : Held st (sectors_of vol)
  held = store_facts st (sectors_of vol) (mount_ok vol m accepted)

  fair : Fair vol m st held.head.chunks_most (map_at vol m st)
  fair = mount_fair vol m st held.head.chunks_most

  pub call_store : (mount_call vol m).store ≡ filled_of vol m st
  unfolding mount_call
  call_store = on_done_done _ _ accepted

  sane : sane_of st.head (sectors_of vol) ≡ true
  unfolding store_ok
  sane = (and_true _ _ (and_true (ltb st.copy 2) _ (mount_ok vol m accepted)).1).0

  pub mounted_ok : store_ok (mount_call vol m).store (sectors_of vol) ≡ true
  mounted_ok = rw call_store (store_ok_lem (filled_of vol m st) (sectors_of vol) held.copy sane fair.ok)

  pub mounted_mapped : Mapped vol (mount_call vol m).store
  unfolding link_part
  mounted_mapped = rw call_store (λ f. let t = fair.tells f in record { sound = λ c h. t.sound c h; bits = λ c h. t.bits c h })
