-- 02, S-1: what `MARKS` says of a point, and where a file's reader finds the end. Both files are read by their readers alone: "the first line of this
-- form with the name counts; other records and holes are passed over". Order of the tests of the input: 3, 1, 13. Assumes nothing.
use Rattle.std.specs.Prelude.{Err, Ok, Result, ℕ, List, eqb, take, Option, Some, None}
use Rattle.medium.specs.declared.Error.{Error}
use Rattle.le.specs.Choice.{pick}
use Rattle.le.specs.Part.{zeros}
use Rattle.walk.specs.Walk.{Visit, next, stop, rest}
use Rattle.names.specs.Names.{point_ok}
use Rattle.marks.specs.declared.Mark.{Mark}
use Rattle.marks.specs.Line.{marks_name, says_of}
use Rattle.medium.specs.declared.Error.TheVariants.{Point}
use Rattle.medium.specs.declared.Medium.{Medium}
use Rattle.medium.specs.Refusal.{Answer, ok, refused, on_done, on_ok}
use Rattle.handles.specs.declared.Store.{Store}
use Rattle.reader.specs.declared.Reader.{Reader}
use Rattle.reader.specs.Calls.{Item, payload, hole, end, NextCall, next_call, record_call}
use Rattle.store.specs.Reading.{ReaderCall, reader_call}
use Rattle.points.specs.declared.Seen.{Seen}

-- 13 comes after what is asked of the store value and the file's name
unfoldable pub asked_point : Result Unit Error → List ℕ → Result Unit Error
asked_point o p = on_done o (pick (point_ok p) (Ok tt) (Err Point)) Err

-- ---- a walk over what a reader gives

-- at a record that says something the walk stops, with that; at another it goes on
unfoldable pub after_mark : Option Mark → Reader → Visit Reader (Answer Seen)
after_mark None rd = next rd
after_mark (Some said) rd = stop (ok (record { mark = Some said; reader = rd }))

-- a hole is passed over; at the end nothing was said, and the reader is the one that found it
unfoldable pub after_item : (List ℕ → Option Mark) → List ℕ → Reader → Item → Visit Reader (Answer Seen)
after_item says out rd (payload n) = after_mark (says (take n out)) rd
after_item says out rd (hole from to blank) = next rd
after_item says out rd end = stop (ok (record { mark = None; reader = rd }))

unfoldable pub turn_of : (List ℕ → Option Mark) → List ℕ → Medium → Store → Reader → Visit Reader (Answer Seen)
turn_of says vol m st rd =
    let c : NextCall = next_call vol m st rd (zeros 486) in
    on_ok c.answer (after_item says c.out c.reader) (λ n. stop (refused n))

-- a reader goes forward, and a file has at most 2,048 chunks of 512 records: the walk has ended before its turns are up (proofs/Ends `walk_ends`)
abbrev pub turns : ℕ
turns = 1048577

unfoldable pub walk_of : (List ℕ → Option Mark) → List ℕ → Medium → Store → Reader → Answer Seen
walk_of says vol m st rd = rest (λ k. turn_of says vol m st) (λ r. ok (record { mark = None; reader = r })) turns 0 rd

-- ---- what `MARKS` says of a point

-- there is no such file; it has no line of the name; the first line of the name has this id and number
pub data Place : Type 0 where
  absent : Place
  unset : Place
  line : (id number : ℕ) → Place

unfoldable pub on_place : {A : Type 0} → Place → A → A → (ℕ → ℕ → A) → A
on_place absent a b f = a
on_place unset a b f = b
on_place (line id number) a b f = f id number

unfoldable pub place_of : Option Mark → Place
place_of None = unset
place_of (Some said) = line said.id said.number

unfoldable pub look_of : List ℕ → Medium → Store → List ℕ → Answer Place
look_of vol m st p =
    let r : ReaderCall = reader_call vol m st marks_name in
    on_ok r.answer
    (λ t. on_ok (walk_of (says_of p) vol m st r.reader) (λ s. ok (place_of s.mark)) refused)
    (λ n. pick (eqb n 9) (ok absent) (refused n))

-- ---- where a file ends: its id, and the number of the record at which its reader found the end

unfoldable pub end_of : List ℕ → Medium → Store → List ℕ → Answer (ℕ × ℕ)
end_of vol m st name =
    let r : ReaderCall = reader_call vol m st name in
    on_ok r.answer
    (λ t.
    on_ok (walk_of (λ x. None) vol m st r.reader)
    (λ s. on_ok (record_call st s.reader) (λ n. ok (s.reader.id, n)) refused)
    refused)
    refused
