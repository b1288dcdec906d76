-- 01, "Record" and refusal 3: a reader of one file, where its chunk ends, and the entering of a chunk. Assumes nothing.
use Rattle.std.specs.Prelude.{Err, Ok, Option, Some, None, Result}
use Rattle.std.specs.Prelude.{ℕ, ◌+◌, ◌/◌, ◌%◌, Bool, true, not, ◌&&◌, List, ltb, leb, eqb}
use Rattle.medium.specs.declared.Error.{Error}
use Rattle.le.specs.Choice.{pick}
use Rattle.medium.specs.declared.Medium.{Medium}
use Rattle.handles.specs.declared.Store.{Store}
use Rattle.table.specs.declared.Link.{Link}
use Rattle.table.specs.declared.ChainParts.{ChainParts}
use Rattle.table.specs.Table.{locate_of, on_place}
use Rattle.reader.specs.declared.Reader.{Reader}

-- the end of a chunk that is not the last lies within a chunk
abbrev pub end_ok : Option ℕ → ℕ → Bool
end_ok None size = true
end_ok (Some n) size = leb n size

-- a reader that passes refusal 3, beside a store value
unfoldable pub reader_ok : Reader → Store → Bool
reader_ok rd st =
    ltb rd.slot 64 && (not (eqb rd.id 0) && ((leb 1 rd.chunks && leb rd.chunks 2048)
    && (ltb rd.chunk st.head.chunks
    && (leb rd.position rd.chunks && (leb rd.index st.head.chunk && end_ok rd.end st.head.chunk)))))

-- what a refused call holds in the place of a reader: its id is 0, so no call accepts it
unfoldable pub no_reader : Reader
no_reader = record { store = 0; generation = 0; slot = 0; id = 0; chunks = 0; chunk = 0; end = None; position = 0; index = 0 }

-- a chunk other than the file's last ends at its partial count, else at the size
unfoldable pub end_of : ℕ → ℕ → ℕ → Bool → ℕ → Option ℕ
end_of chunks position size partial records = pick (ltb (position + 1) chunks) (Some (pick partial records size)) None

-- a reader from the first record of the file `id` in a slot, with its chain
unfoldable pub start_of : Store → ℕ → ℕ → ChainParts → Reader
start_of st slot id p =
    record {
      store = st.head.id;
      generation = st.head.generation;
      slot = slot;
      id = id;
      chunks = p.count;
      chunk = p.first;
      end = end_of p.count 0 st.head.chunk p.partial p.records;
      position = 0;
      index = 0;
    }

-- the same reader, elsewhere in its file: in a chunk that ends so, at a position and an index
abbrev pub standing : Reader → ℕ → Option ℕ → ℕ → ℕ → Reader
standing rd chunk end position index =
    record {
      store = rd.store;
      generation = rd.generation;
      slot = rd.slot;
      id = rd.id;
      chunks = rd.chunks;
      chunk = chunk;
      end = end;
      position = position;
      index = index;
    }

-- at another record of its chunk, or past its chunks
unfoldable pub moved_to : Reader → ℕ → ℕ → Reader
moved_to rd position index = standing rd rd.chunk rd.end position index

-- in another chunk
unfoldable pub inside_of : Store → Reader → ℕ → ℕ → ℕ → Link → Reader
inside_of st rd position index chunk l =
    standing rd chunk (end_of rd.chunks position st.head.chunk l.partial l.records) position index

-- entering the chunk at a position: the table says where it is
unfoldable pub enter_of : List ℕ → Medium → Store → Reader → ℕ → ℕ → Result Reader Error
enter_of vol m st rd position index =
    on_place (locate_of vol m st rd.slot position)
    Err
    (λ chunk l. Ok (inside_of st rd position index chunk l))

-- seeking a record by its number. Past the chunks nothing is read; in the reader's own chunk neither
unfoldable pub seek_of : List ℕ → Medium → Store → Reader → ℕ → Result Reader Error
seek_of vol m st rd number =
    let position : ℕ = number / st.head.chunk in
    let index : ℕ = number % st.head.chunk in
    pick (leb rd.chunks position) (Ok (moved_to rd rd.chunks 0))
    (pick (eqb position rd.position) (Ok (moved_to rd position index))
    (enter_of vol m st rd position index))
