-- `reader` and `reader_of_id`, by the ways that they go: a law for each return, over plain values. Assumes nothing.
use Rattle.std.specs.Prelude.{Err, Ok, Result}
use mathlib.Core.Path.{◌≡◌}
use mathlib.Core.Bool.{Bool, true}
use mathlib.Core.List.{List}
use Prim.Native.Nat.{ℕ}
use Rattle.names.specs.Names.{name_ok}
use Rattle.medium.specs.declared.Error.{Error}
use Rattle.medium.specs.declared.Medium.{Medium}
use Rattle.medium.specs.Refusal.{on_done}
use Rattle.handles.specs.declared.Store.{Store}
use Rattle.directory.specs.declared.Found.{Found}
use Rattle.directory.specs.Scan.{find_of, find_id_of, on_found}
use Rattle.table.specs.declared.ChainParts.{ChainParts}
use Rattle.table.specs.Table.{chain_of, on_chain}
use Rattle.reader.specs.declared.Reader.{Reader}
use Rattle.reader.specs.Reader.{start_of}
use Rattle.store.specs.declared.ReaderAnswer.{ReaderAnswer}
use Rattle.store.specs.Asked.{asked_of}
use Rattle.store.specs.Reading.{reader_answer, no_reader_answer, started_at, reader_call, reader_of_id_call}

-- ---- the file found

module _ (vol : List ℕ) (m : Medium) (st : Store) {f : Result Found Error} where
  pub not_found : {e : Error} {r : ReaderAnswer} → f ≡ Err e → r ≡ no_reader_answer m e → r ≡ started_at vol m st f
  unfolding on_found
  not_found h k = rw (k, h)

  module _ {x : Found} (h : f ≡ Ok x) {y : Result ChainParts Error} (c : y ≡ chain_of vol m st x.slot) where
    pub no_chain_lem : {e : Error} {r : ReaderAnswer} → y ≡ Err e → r ≡ no_reader_answer m e → r ≡ started_at vol m st f
    unfolding on_found on_chain
    no_chain_lem e k = rw (k, h, ← c, e)

    pub whole_chain : {p : ChainParts} {rd : Reader} → y ≡ Ok p → rd ≡ start_of st x.slot x.id p
        → record { outcome = Ok tt; reader = rd; medium = m } ≡ started_at vol m st f
    unfolding on_found on_chain
    whole_chain e k = rw (k, h, ← c, e)

-- ---- by a name

module _ (vol : List ℕ) (m : Medium) (st : Store) (name : List ℕ) {o : Result Unit Error} {fine : Bool} (n : fine ≡ name_ok name) (q : o ≡ asked_of vol st fine)
    {r : ReaderAnswer} where
  pub input_refused : {e : Error} → o ≡ Err e → r ≡ no_reader_answer m e → reader_answer r ≡ reader_call vol m st name
  unfolding reader_call on_done
  input_refused h k = rw (k, ← n, ← q, h)

  pub named_started : {f : Result Found Error} → o ≡ Ok tt → f ≡ find_of vol m st name → r ≡ started_at vol m st f → reader_answer r ≡ reader_call vol m st name
  unfolding reader_call on_done
  named_started h g k = rw (k, ← n, ← q, h, g)

-- ---- by an id

module _ (vol : List ℕ) (m : Medium) (st : Store) (id : ℕ) {o : Result Unit Error} (q : o ≡ asked_of vol st true) {r : ReaderAnswer} where
  pub id_refused : {e : Error} → o ≡ Err e → r ≡ no_reader_answer m e → reader_answer r ≡ reader_of_id_call vol m st id
  unfolding reader_of_id_call on_done
  id_refused h k = rw (k, ← q, h)

  pub id_started : {f : Result Found Error} → o ≡ Ok tt → f ≡ find_id_of vol m st id → r ≡ started_at vol m st f → reader_answer r ≡ reader_of_id_call vol m st id
  unfolding reader_of_id_call on_done
  id_started h g k = rw (k, ← q, h, g)
