-- S-4: "Reopening and reading keep their earlier results in all else." The two calls that read, as they were before it, when a hole had two numbers;
-- and a call of today with the third forgotten. Assumes nothing.
use Rattle.std.specs.Prelude.{ℕ, List, ltb, length, Result, Ok, Err}
use Rattle.medium.specs.declared.Error.{Error}
use Rattle.le.specs.Choice.{pick}
use Rattle.medium.specs.declared.Medium.{Medium}
use Rattle.medium.specs.Refusal.{number_of, Answer, ok, refused, on_done}
use Rattle.handles.specs.declared.Store.{Store}
use Rattle.reader.specs.declared.Reader.{Reader}
use Rattle.reader.specs.declared.Found.{Found}
use Rattle.reader.specs.declared.Found.TheVariants as found
use Rattle.reader.specs.declared.Upto.{Upto}
use Rattle.reader.specs.Next.{NextOut, next_of}
use Rattle.reader.specs.Calls.{usable_of, NextCall}
use Rattle.reader.specs.Calls as now
use Rattle.reader.specs.Upto.{same_limit, below_of, UptoCall}

-- ---- 01: payload length, a hole from..to, or end

pub data Item : Type 0 where
  payload : ℕ → Item
  hole : ℕ → ℕ → Item
  end : Item

abbrev pub item_answer : Result Found Error → Answer Item
item_answer (Err e) = refused (number_of e)
item_answer (Ok (found.Payload n)) = ok (payload n)
item_answer (Ok (found.Hole from to)) = ok (hole from to)
item_answer (Ok found.End) = ok end

pub record NextEarlier : Type 0 where
  pub answer : Answer Item
  pub reader : Reader
  pub out : List ℕ
  pub medium : Medium

unfoldable pub next_earlier : List ℕ → Medium → Store → Reader → List ℕ → NextEarlier
next_earlier vol m st rd out =
    let no : ℕ → NextEarlier = λ n. record { answer = refused n; reader = rd; out = out; medium = m } in
    let r : NextOut = next_of vol m st rd out in
    pick (ltb (length out) 486) (no 2)
    (on_done (usable_of vol st rd)
    (record { answer = item_answer r.ans.next; reader = r.ans.reader; out = r.out; medium = m })
    (λ e. no (number_of e)))

-- ---- S-1: the same, of a reader up to a number

pub record UptoEarlier : Type 0 where
  pub answer : Answer Item
  pub upto : Upto
  pub out : List ℕ
  pub medium : Medium

unfoldable pub below_earlier : List ℕ → Medium → Store → Upto → List ℕ → UptoEarlier
below_earlier vol m st u out =
    let no : ℕ → UptoEarlier = λ n. record { answer = refused n; upto = u; out = out; medium = m } in
    let r : NextOut = below_of u.limit vol m st u.reader out in
    pick (ltb (length out) 486) (no 2)
    (on_done (usable_of vol st u.reader)
    (record { answer = item_answer r.ans.next; upto = same_limit u r.ans.reader; out = r.out; medium = m })
    (λ e. no (number_of e)))

-- ---- without the count

unfoldable pub uncounted : Answer now.Item → Answer Item
uncounted (refused n) = refused n
uncounted (ok (now.payload n)) = ok (payload n)
uncounted (ok (now.hole from to blank)) = ok (hole from to)
uncounted (ok now.end) = ok end

abbrev pub next_forgot : NextCall → NextEarlier
next_forgot c = record { answer = uncounted c.answer; reader = c.reader; out = c.out; medium = c.medium }

abbrev pub below_forgot : UptoCall → UptoEarlier
below_forgot c = record { answer = uncounted c.answer; upto = c.upto; out = c.out; medium = c.medium }
