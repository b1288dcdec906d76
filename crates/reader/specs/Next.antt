-- 01, "Record": what a reader finds next. A chunk other than the file's last ends at its partial count, else at the size. An invalid record starts
-- a hole up to the next valid one in its chunk or, if the chunk is not the last, to the chunk's end; in the last chunk with no valid one after it,
-- it is the end. Output past the length is unchanged, and all of it where no payload is given. Assumes nothing.
use Rattle.std.specs.Prelude.{Err, Ok, Option, Some, None, Result}
use Rattle.std.specs.Prelude.{ℕ, ◌+◌, Bool, true, false, not, ◌&&◌, List, leb, eqb}
use Rattle.le.specs.Choice.{pick}
use Rattle.le.specs.Part.{over}
use Rattle.walk.specs.Walk.{Visit, next, stop, rest, visits}
use Rattle.medium.specs.declared.Error.{Error}
use Rattle.medium.specs.declared.Medium.{Medium}
use Rattle.medium.specs.Sector.{sector_at}
use Rattle.handles.specs.declared.Store.{Store}
use Rattle.record.specs.Record.{on_judged, on_result, payload_of, data_at, number_at, record_at}
use Rattle.reader.specs.declared.Reader.{Reader}
use Rattle.reader.specs.declared.Arrived.{Arrived}
use Rattle.reader.specs.declared.Found.{Found}
use Rattle.reader.specs.declared.Found.TheVariants as found
use Rattle.reader.specs.declared.Taken.{Taken}
use Rattle.reader.specs.Reader.{moved_to, enter_of}

-- an index at or past the end of a chunk that is not the last
unfoldable pub passed_end : Option ℕ → ℕ → Bool
passed_end None index = false
passed_end (Some n) index = leb n index

unfoldable pub is_last : Option ℕ → Bool
is_last None = true
is_last (Some n) = false

-- where a chunk ends
unfoldable pub limit_of : Option ℕ → ℕ → ℕ
limit_of None size = size
limit_of (Some n) size = n

-- at position k of its file: in a chunk that is passed the reader enters the next one at index 0. In another it has arrived, and there is more
-- unless it stands at the size
unfoldable pub arrive_step : List ℕ → Medium → Store → ℕ → Reader → Visit Reader Arrived
arrive_step vol m st k rd =
    pick (passed_end rd.end rd.index)
    (on_result (enter_of vol m st rd (k + 1) 0) (λ e. stop (record { reader = rd; more = Err e })) next)
    (stop (record { reader = rd; more = Ok (not (eqb rd.index st.head.chunk)) }))

-- so on up to its chunks, past which there is no more
unfoldable pub arrive_of : List ℕ → Medium → Store → Reader → Arrived
arrive_of vol m st rd = rest (arrive_step vol m st) (λ r. record { reader = r; more = Ok false }) rd.chunks rd.position rd

-- record i of the reader's chunk, read and judged
unfoldable pub record_here : List ℕ → Medium → Store → Reader → ℕ → Result (Option ℕ) Error
record_here vol m st rd i = record_at vol m st rd.id rd.chunk rd.position i

-- the first valid record of the chunk from `after` on, or the limit
abbrev pub search_step : ℕ → Unit {0} → Result (Option ℕ) Error → Visit (Unit {0}) (Result ℕ Error)
search_step i s j = on_judged j (λ e. stop (Err e)) (λ n. stop (Ok i)) (next s)

unfoldable pub search_of : List ℕ → Medium → Store → Reader → ℕ → ℕ → Result ℕ Error
search_of vol m st rd after limit = visits search_step (record_here vol m st rd) (λ s. Ok limit) limit after tt

-- an answer
abbrev pub tells : Result Found Error → Reader → Taken
tells n rd = record { next = n; reader = rd }

-- at an invalid record: a hole up to what the search finds, or the end. Refused, the search has not moved the reader
unfoldable pub hole_of : List ℕ → Medium → Store → Reader → Taken
hole_of vol m st rd =
    let size : ℕ = st.head.chunk in
    let limit : ℕ = limit_of rd.end size in
    on_result (search_of vol m st rd (rd.index + 1) limit)
    (λ e. tells (Err e) rd)
    (λ to. pick (is_last rd.end && eqb to limit) (tells (Ok found.End) rd)
    (tells (Ok (found.Hole (number_at rd.position size rd.index) (number_at rd.position size to))) (moved_to rd rd.position to)))

-- the output, and the answer
pub record NextOut : Type 0 where
  pub out : List ℕ
  pub ans : Taken

-- the record at the reader's index: its payload to the front of the output, and the reader behind it
unfoldable pub take_of : List ℕ → Medium → Store → Reader → List ℕ → NextOut
take_of vol m st rd out =
    on_judged (record_here vol m st rd rd.index)
    (λ e. record { out = out; ans = tells (Err e) rd })
    (λ n. record {
      out = over 0 (payload_of (sector_at vol (data_at st rd.chunk rd.index)) n) out;
      ans = tells (Ok (found.Payload n)) (moved_to rd rd.position (rd.index + 1));
    })
    (record { out = out; ans = hole_of vol m st rd })

-- the next record, hole or end. Refused on entering a chunk, the reader is where it had come to
unfoldable pub next_of : List ℕ → Medium → Store → Reader → List ℕ → NextOut
next_of vol m st rd out =
    let a : Arrived = arrive_of vol m st rd in
    on_result a.more
    (λ e. record { out = out; ans = tells (Err e) a.reader })
    (λ more. pick more (take_of vol m st a.reader out) (record { out = out; ans = tells (Ok found.End) a.reader }))
