-- S-1: a reader up to a record number. It gives what the reader gives below that number, a hole that crosses it ending there, then end. Order of
-- refusals: 2, 3, then 11, as of a reader; any number passes. Assumes nothing.
use Rattle.std.specs.Prelude.{ℕ, ◌-◌, ◌&&◌, Bool, false, List, ltb, leb, length, Option, Some, None, Result, Ok, Err}
use Rattle.medium.specs.declared.Error.{Error}
use Rattle.medium.specs.declared.Error.TheVariants.{Range}
use Rattle.le.specs.Choice.{pick}
use Rattle.medium.specs.declared.Medium.{Medium}
use Rattle.medium.specs.Refusal.{number_of, Answer, refused, on_done}
use Rattle.handles.specs.declared.Store.{Store}
use Rattle.record.specs.Record.{on_result, number_at}
use Rattle.reader.specs.declared.Reader.{Reader}
use Rattle.reader.specs.declared.Arrived.{Arrived}
use Rattle.reader.specs.declared.Found.{Found}
use Rattle.reader.specs.declared.Found.TheVariants as found
use Rattle.reader.specs.declared.Taken.{Taken}
use Rattle.reader.specs.declared.Upto.{Upto}
use Rattle.reader.specs.declared.UptoRead.{UptoRead}
use Rattle.reader.specs.Reader.{moved_to}
use Rattle.reader.specs.Next.{arrive_of, tells, NextOut, take_of, next_of}
use Rattle.reader.specs.Blank.{counted_of}
use Rattle.reader.specs.Calls.{usable_of, Item, next_answer, NextCall}

-- refusals 2, 3 and 11 of a call that gives a payload, into an output of this length
unfoldable pub readable_of : ℕ → List ℕ → Store → Reader → Result Unit Error
readable_of room vol st rd = pick (ltb room 486) (Err Range) (usable_of vol st rd)

-- the number of the record that comes next
unfoldable pub stands_at : Store → Reader → ℕ
stands_at st rd = number_at rd.position st.head.chunk rd.index

-- a hole that crosses the number ends there, and the reader, which is in its chunk, stands there
unfoldable pub cut_at : ℕ → Store → Reader → Taken → Result Found Error → Taken
cut_at limit st rd t (Err e) = t
cut_at limit st rd t (Ok (found.Payload n)) = t
cut_at limit st rd t (Ok (found.Hole from to)) =
    pick (ltb limit to) (tells (Ok (found.Hole from limit)) (moved_to rd rd.position (limit - number_at rd.position st.head.chunk 0))) t
cut_at limit st rd t (Ok found.End) = t

unfoldable pub cut_out : ℕ → Store → Reader → NextOut → NextOut
cut_out limit st rd o = record { out = o.out; ans = cut_at limit st rd o.ans o.ans.next }

-- all below the number was given: the end, with nothing read. Else as the reader goes; a record at or past the number is not read
unfoldable pub below_of : ℕ → List ℕ → Medium → Store → Reader → List ℕ → NextOut
below_of limit vol m st rd out =
    let a : Arrived = arrive_of vol m st rd in
    pick (leb limit (stands_at st rd)) (record { out = out; ans = tells (Ok found.End) rd })
    (on_result a.more
    (λ e. record { out = out; ans = tells (Err e) a.reader })
    (λ more. pick (more && ltb (stands_at st a.reader) limit)
    (cut_out limit st a.reader (take_of vol m st a.reader out))
    (record { out = out; ans = tells (Ok found.End) a.reader })))

-- ---- with a limit or without one, which is how the function goes

-- all below the limit was given
unfoldable pub is_given : Option ℕ → ℕ → Bool
is_given None n = false
is_given (Some limit) n = leb limit n

unfoldable pub cut_upto : Option ℕ → Store → Reader → Taken → Taken
cut_upto None st rd t = t
cut_upto (Some limit) st rd t = cut_at limit st rd t t.next

unfoldable pub next_upto : Option ℕ → List ℕ → Medium → Store → Reader → List ℕ → NextOut
next_upto None vol m st rd out = next_of vol m st rd out
next_upto (Some limit) vol m st rd out = below_of limit vol m st rd out

unfoldable pub read_call : Option ℕ → List ℕ → Medium → Store → Reader → List ℕ → NextCall
read_call limit vol m st rd out =
    let no : Error → NextCall = λ e. record { answer = refused (number_of e); reader = rd; out = out; medium = m } in
    let r : NextOut = next_upto limit vol m st rd out in
    on_done (readable_of (length out) vol st rd)
    (record { answer = next_answer (counted_of vol st r.ans.reader r.ans.next); reader = r.ans.reader; out = r.out; medium = m })
    no

-- ---- the call

pub record UptoCall : Type 0 where
  pub answer : Answer Item
  pub upto : Upto
  pub out : List ℕ
  pub medium : Medium

-- the answer, beside what the lent output holds
abbrev pub upto_answer : UptoRead → List ℕ → UptoCall
upto_answer r out = record { answer = next_answer r.next; upto = r.upto; out = out; medium = r.medium }

abbrev pub same_limit : Upto → Reader → Upto
same_limit u rd = record { reader = rd; limit = u.limit }

unfoldable pub below_call : List ℕ → Medium → Store → Upto → List ℕ → UptoCall
below_call vol m st u out =
    let no : ℕ → UptoCall = λ n. record { answer = refused n; upto = u; out = out; medium = m } in
    let r : NextOut = below_of u.limit vol m st u.reader out in
    pick (ltb (length out) 486) (no 2)
    (on_done (usable_of vol st u.reader)
    (record { answer = next_answer (counted_of vol st r.ans.reader r.ans.next); upto = same_limit u r.ans.reader; out = r.out; medium = m })
    (λ e. no (number_of e)))
