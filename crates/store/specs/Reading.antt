-- The calls on offer that only read, as 01 has them: the tests of the input in the order 2, 3, 1, then what the state gives. Each hands the medium
-- record back as it was. Assumes nothing.
use Rattle.std.specs.Prelude.{Err, Ok, Result}
use Rattle.std.specs.Prelude.{ℕ, true, ◌||◌, List, ltb, length}
use Rattle.le.specs.Choice.{pick}
use Rattle.le.specs.Part.{over, zeros}
use Rattle.medium.specs.declared.Error.{Error}
use Rattle.medium.specs.declared.Error.TheVariants as no
use Rattle.medium.specs.declared.Medium.{Medium}
use Rattle.medium.specs.Refusal.{Answer, ok, refused, number_of, on_done, outcome_of}
use Rattle.handles.specs.declared.Store.{Store}
use Rattle.header.specs.declared.answers.Mounted.{Mounted}
use Rattle.header.specs.Copies.{mount_of}
use Rattle.directory.specs.declared.Found.{Found}
use Rattle.directory.specs.Scan.{find_of, find_id_of, on_found, found_at}
use Rattle.directory.specs.Rows.{RowsOut, rows_of}
use Rattle.table.specs.Table.{Counted, count_of, chain_of, on_chain}
use Rattle.table.specs.Free.{free_count_of, map_at}
use Rattle.reader.specs.declared.Reader.{Reader}
use Rattle.reader.specs.Reader.{start_of, no_reader}
use Rattle.store.specs.Asked.{asked_of, asked_name, asked_dir}
use Rattle.store.specs.declared.FindAnswer.{FindAnswer}
use Rattle.store.specs.declared.FreeCountAnswer.{FreeCountAnswer}
use Rattle.store.specs.declared.ListAnswer.{ListAnswer}
use Rattle.store.specs.declared.StoreAnswer.{StoreAnswer}
use Rattle.store.specs.declared.ReaderAnswer.{ReaderAnswer}

-- ---- mount: the store

pub record StoreCall : Type 0 where
  pub answer : Answer Unit
  pub store : Store
  pub medium : Medium

abbrev pub store_answer : StoreAnswer → StoreCall
store_answer r = record { answer = outcome_of r.outcome; store = r.store; medium = r.medium }

-- S-3: the store value with the map of its table
abbrev pub filled_of : List ℕ → Medium → Store → Store
filled_of vol m st = record { copy = st.copy; head = st.head; writer = st.writer; free = map_at vol m st }

unfoldable pub mount_call : List ℕ → Medium → StoreCall
mount_call vol m =
    let r : Mounted = mount_of vol m in
    record { answer = outcome_of r.outcome; store = on_done r.outcome (filled_of vol m r.store) (λ e. r.store); medium = m }

-- ---- S-3: the free count

-- the answer as 01 has it
abbrev pub count_answer : Result ℕ Error → Answer ℕ
count_answer (Err e) = refused (number_of e)
count_answer (Ok n) = ok n

pub record CountCall : Type 0 where
  pub answer : Answer ℕ
  pub medium : Medium

abbrev pub free_count_answer : FreeCountAnswer → CountCall
free_count_answer r = record { answer = count_answer r.count; medium = r.medium }

unfoldable pub free_count_call : List ℕ → Medium → Store → CountCall
free_count_call vol m st = record { answer = count_answer (on_done (asked_of vol st true) (free_count_of vol m st) Err); medium = m }

-- ---- find: slot and id

-- an answer as 01 has it
abbrev pub found_answer : Result Found Error → Answer (ℕ × ℕ)
found_answer (Err e) = refused (number_of e)
found_answer (Ok x) = ok (x.slot, x.id)

pub record FindCall : Type 0 where
  pub answer : Answer (ℕ × ℕ)
  pub medium : Medium

abbrev pub find_answer : FindAnswer → FindCall
find_answer r = record { answer = found_answer r.found; medium = r.medium }

unfoldable pub find_call : List ℕ → Medium → Store → List ℕ → FindCall
find_call vol m st name =
    record { answer = found_answer (on_done (asked_name vol st name) (find_of vol m st name) Err); medium = m }

-- ---- list: the number of rows; counts and rows are lent

pub record ListCall : Type 0 where
  pub answer : Answer Unit
  pub made : ℕ
  pub medium : Medium
  pub counts : List ℕ
  pub rows : List ℕ

-- what is told at an outcome: the rows made so far, and the buffers
abbrev pub list_at : Medium → Result Unit Error → ℕ → List ℕ → List ℕ → ListCall
list_at m o made counts rows = record { answer = outcome_of o; made = made; medium = m; counts = counts; rows = rows }

-- the answer, beside what the lent buffers hold
abbrev pub list_answer : ListAnswer → List ℕ → List ℕ → ListCall
list_answer r counts rows = list_at r.medium r.outcome r.count counts rows

-- refused, with no row made
abbrev pub not_listed : Medium → Error → ListAnswer
not_listed m e = record { outcome = Err e; count = 0; medium = m }

-- the counts set to 0 first, then the whole table, then the directory: a state refusal keeps the counts and rows made before it
unfoldable pub list_from : List ℕ → Medium → Store → List ℕ → List ℕ → List ℕ → ListCall
list_from vol m st dir counts rows =
    let c : Counted = count_of vol m st (over 0 (zeros 64) counts) in
    let r : RowsOut = rows_of vol m st dir c.counts rows in
    on_done c.outcome (list_at m r.outcome r.made.count c.counts r.made.rows) (λ e. list_answer (not_listed m e) c.counts rows)

-- a refusal of the input leaves every buffer as it was
unfoldable pub list_call : List ℕ → Medium → Store → List ℕ → List ℕ → List ℕ → ListCall
list_call vol m st dir counts rows =
    pick (ltb (length rows) 3072 || ltb (length counts) 64) (list_answer (not_listed m no.Range) counts rows)
    (on_done (asked_dir vol st dir) (list_from vol m st dir counts rows) (λ e. list_answer (not_listed m e) counts rows))

-- ---- reader: from the file's first record

pub record ReaderCall : Type 0 where
  pub answer : Answer Unit
  pub reader : Reader
  pub medium : Medium

abbrev pub reader_answer : ReaderAnswer → ReaderCall
reader_answer r = record { answer = outcome_of r.outcome; reader = r.reader; medium = r.medium }

-- refused, a reader that no call accepts
abbrev pub no_reader_answer : Medium → Error → ReaderAnswer
no_reader_answer m e = record { outcome = Err e; reader = no_reader; medium = m }

-- the file found, with its chain
abbrev pub started_at : List ℕ → Medium → Store → Result Found Error → ReaderAnswer
started_at vol m st f =
    on_found f (no_reader_answer m)
    (λ slot id. on_chain (chain_of vol m st slot) (no_reader_answer m) (λ p. record { outcome = Ok tt; reader = start_of st slot id p; medium = m }))

unfoldable pub reader_call : List ℕ → Medium → Store → List ℕ → ReaderCall
reader_call vol m st name = reader_answer (on_done (asked_name vol st name) (started_at vol m st (find_of vol m st name)) (no_reader_answer m))

-- ---- S-1: the same of the file with an id, the lowest slot with it; none is 15

unfoldable pub reader_of_id_call : List ℕ → Medium → Store → ℕ → ReaderCall
reader_of_id_call vol m st id = reader_answer (on_done (asked_of vol st true) (started_at vol m st (find_id_of vol m st id)) (no_reader_answer m))
