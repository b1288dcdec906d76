-- The calls on offer to a holder of a reader, in 01's numbers: next, seek, and the number of the record that comes next. Order of refusals: 2, 3,
-- then 11, which compares the reader with the store VALUE. No call changes the medium record. Assumes nothing.
use Rattle.std.specs.Prelude.{Err, Ok, Result}
use Rattle.medium.specs.declared.Error.{Error}
use Rattle.std.specs.Prelude.{ℕ, ◌^◌, ◌&&◌, List, ltb, eqb, length}
use Rattle.le.specs.Choice.{pick}
use Rattle.medium.specs.declared.Error.TheVariants.{Handle, Stale}
use Rattle.medium.specs.declared.Medium.{Medium}
use Rattle.medium.specs.Refusal.{number_of, Answer, ok, refused, on_done, outcome_of}
use Rattle.medium.specs.Sector.{sectors_of}
use Rattle.handles.specs.declared.Store.{Store}
use Rattle.handles.specs.Handles.{store_ok}
use Rattle.record.specs.Record.{on_result, number_at}
use Rattle.reader.specs.declared.Reader.{Reader}
use Rattle.reader.specs.declared.Read.{Read}
use Rattle.reader.specs.declared.Sought.{Sought}
use Rattle.reader.specs.declared.Next.{Next}
use Rattle.reader.specs.declared.Next.TheVariants as item
use Rattle.reader.specs.Reader.{reader_ok, seek_of}
use Rattle.reader.specs.Next.{NextOut, next_of}
use Rattle.reader.specs.Blank.{counted_of}

-- the store value and the reader pass refusal 3, and the reader is one of this store at this generation
unfoldable pub usable_of : List ℕ → Store → Reader → Result Unit Error
usable_of vol st rd =
    pick (store_ok st (sectors_of vol) && reader_ok rd st)
    (pick (eqb rd.store st.head.id && eqb rd.generation st.head.generation) (Ok tt) (Err Stale))
    (Err Handle)

-- ---- next: payload length, a hole from..to with its blank sectors (S-4), or end

pub data Item : Type 0 where
  payload : ℕ → Item
  hole : ℕ → ℕ → ℕ → Item
  end : Item

abbrev pub next_answer : Result Next Error → Answer Item
next_answer (Err e) = refused (number_of e)
next_answer (Ok (item.Payload n)) = ok (payload n)
next_answer (Ok (item.Hole from to blank)) = ok (hole from to blank)
next_answer (Ok item.End) = ok end

pub record NextCall : Type 0 where
  pub answer : Answer Item
  pub reader : Reader
  pub out : List ℕ
  pub medium : Medium

-- the answer, beside what the lent output holds
abbrev pub read_answer : Read → List ℕ → NextCall
read_answer r out = record { answer = next_answer r.next; reader = r.reader; out = out; medium = r.medium }

unfoldable pub next_call : List ℕ → Medium → Store → Reader → List ℕ → NextCall
next_call vol m st rd out =
    let no : ℕ → NextCall = λ n. record { answer = refused n; reader = rd; out = out; medium = m } in
    let r : NextOut = next_of vol m st rd out in
    pick (ltb (length out) 486) (no 2)
    (on_done (usable_of vol st rd)
    (record { answer = next_answer (counted_of vol st r.ans.reader r.ans.next); reader = r.ans.reader; out = r.out; medium = m })
    (λ e. no (number_of e)))

-- ---- seek

pub record SeekCall : Type 0 where
  pub answer : Answer (Unit {0})
  pub reader : Reader
  pub medium : Medium

abbrev pub sought_answer : Sought → SeekCall
sought_answer r = record { answer = outcome_of r.outcome; reader = r.reader; medium = r.medium }

unfoldable pub seek_call : List ℕ → Medium → Store → Reader → ℕ → SeekCall
seek_call vol m st rd number =
    let no : Error → SeekCall = λ e. record { answer = refused (number_of e); reader = rd; medium = m } in
    on_done (usable_of vol st rd)
    (on_result (seek_of vol m st rd number) no (λ r. record { answer = ok tt; reader = r; medium = m }))
    no

-- ---- record: the number of the record that comes next. A reader whose number does not fit 32 bits is none that a call gave

abbrev pub numbered_answer : Result ℕ Error → Answer ℕ
numbered_answer (Err e) = refused (number_of e)
numbered_answer (Ok n) = ok n

unfoldable pub record_call : Store → Reader → Answer ℕ
record_call st rd =
    let n : ℕ = number_at rd.position st.head.chunk rd.index in
    pick (ltb n (2 ^ 32)) (ok n) (refused 3)
