-- Find, list and reader go by the volume's length and by the body of their store value: volumes that agree there give the same. Assumes nothing.
use mathlib.Core.Path.{◌≡◌, refl}
use mathlib.Core.List.{List}
use Prim.Native.Nat.{ℕ, ◌+◌, ◌<◌}
use native.Mathlib.Omega.{arith}
use lib.ListN.{length}
use Rattle.std.specs.Prelude.{Result, Ok, Err}
use Rattle.medium.specs.declared.Error.{Error}
use Rattle.le.specs.Part.{over, zeros}
use Rattle.medium.specs.declared.Medium.{Medium}
use Rattle.medium.specs.Sector.{sector_at}
use Rattle.handles.specs.declared.Store.{Store}
use Rattle.handles.specs.Handles.{table_of, body_of}
use Rattle.handles.specs.Body.{body_at}
use Rattle.directory.specs.declared.Found.{Found}
use Rattle.directory.specs.Scan.{finding, find_of, on_found, found_at}
use Rattle.directory.specs.Rows.{listing, rows_of}
use Rattle.directory.proofs.Scans.{scan_frame}
use Rattle.table.specs.Table.{no_chain, chain_v, chain_of, count_v, count_of}
use Rattle.table.proofs.Walks.{table_frame}
use Rattle.store.specs.Asked.{asked_of}
use Rattle.store.specs.Reading.{find_call, list_from, list_call, started_at, reader_call}

module _ (vol v : List ℕ) (m : Medium) (st : Store) (size : length v ≡ length vol)
    (body : (k : ℕ) → k < body_of st.head.chunks → sector_at v (body_at st k) ≡ sector_at vol (body_at st k)) where
  entries : (k : ℕ) → k < 8 → sector_at v (body_at st k) ≡ sector_at vol (body_at st k)
  entries k l = body k (omega arith)

  links : (t : ℕ) → t < table_of st.head.chunks → sector_at v (body_at st (8 + t)) ≡ sector_at vol (body_at st (8 + t))
  links t l = body (8 + t) (omega arith)

  looked : (name : List ℕ) → find_of v m st name ≡ find_of vol m st name
  unfolding find_of
  looked name = scan_frame (finding name) v vol m m st tt refl entries

  pub find_frame : (name : List ℕ) → find_call v m st name ≡ find_call vol m st name
  unfolding find_call asked_of
  find_frame name = rw (size, looked name)

  rowed : (dir counts rows : List ℕ) → rows_of v m st dir counts rows ≡ rows_of vol m st dir counts rows
  unfolding rows_of
  rowed dir counts rows = scan_frame (listing dir counts) v vol m m st (record { rows = rows; count = 0 }) refl entries

  counted : (counts : List ℕ) → count_of v m st counts ≡ count_of vol m st counts
  unfolding count_of
  counted counts = table_frame v vol m st links count_v counts

  pub list_frame : (dir counts rows : List ℕ) → list_call v m st dir counts rows ≡ list_call vol m st dir counts rows
  unfolding list_call list_from asked_of
  list_frame dir counts rows = rw (size, counted (over 0 (zeros 64) counts), rowed dir (count_of vol m st (over 0 (zeros 64) counts)).counts rows)

  chained : (slot : ℕ) → chain_of v m st slot ≡ chain_of vol m st slot
  unfolding chain_of
  chained slot = table_frame v vol m st links (chain_v slot) no_chain

  started : (f : Result Found Error) → started_at v m st f ≡ started_at vol m st f
  unfolding on_found
  started (Err e) = refl
  started (Ok x) = rw (chained x.slot)

  pub reader_frame : (name : List ℕ) → reader_call v m st name ≡ reader_call vol m st name
  unfolding reader_call asked_of
  reader_frame name = rw (size, looked name, started (find_of vol m st name))
