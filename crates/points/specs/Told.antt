-- What the code's answers inside this crate say, in the words of Look. Assumes nothing.
use Rattle.std.specs.Prelude.{ℕ, List, Option, Some, None, Result, Ok, Err}
use Rattle.walk.specs.Walk.{Visit, next, stop}
use Rattle.marks.specs.declared.Mark.{Mark}
use Rattle.marks.specs.Line.{says_of}
use Rattle.medium.specs.declared.Error.{Error}
use Rattle.medium.specs.Refusal.{Answer, ok, refused, number_of}
use Rattle.reader.specs.declared.Reader.{Reader}
use Rattle.points.specs.declared.Seen.{Seen}
use Rattle.points.specs.declared.Sight.{Sight}
use Rattle.points.specs.declared.Sight.TheVariants.{Passed, Line, End}
use Rattle.points.specs.declared.Turn.{Turn}
use Rattle.points.specs.declared.Place.{Place as PlaceTold}
use Rattle.points.specs.declared.Place.TheVariants as told
use Rattle.points.specs.declared.Ended.{Ended}
use Rattle.points.specs.Look.{Place, absent, unset, line}

-- a walk that seeks nothing passes every record
unfoldable pub sought_of : Option (List ℕ) → List ℕ → Option Mark
sought_of None x = None
sought_of (Some p) x = says_of p x

unfoldable pub sight_of : Option Mark → Sight
sight_of None = Passed
sight_of (Some said) = Line said.id said.number

unfoldable pub sight_visit : Sight → Reader → Visit Reader (Answer Seen)
sight_visit Passed rd = next rd
sight_visit (Line id number) rd = stop (ok (record { mark = Some (record { id = id; number = number }); reader = rd }))
sight_visit End rd = stop (ok (record { mark = None; reader = rd }))

abbrev pub visit_of : Result Turn Error → Visit Reader (Answer Seen)
visit_of (Ok t) = sight_visit t.sight t.reader
visit_of (Err e) = stop (refused (number_of e))

abbrev pub walked_answer : Result Seen Error → Answer Seen
walked_answer (Ok s) = ok s
walked_answer (Err e) = refused (number_of e)

abbrev pub place_answer : Result PlaceTold Error → Answer Place
place_answer (Ok told.Absent) = ok absent
place_answer (Ok told.Unset) = ok unset
place_answer (Ok (told.Line id number)) = ok (line id number)
place_answer (Err e) = refused (number_of e)

abbrev pub ended_answer : Result Ended Error → Answer (ℕ × ℕ)
ended_answer (Ok e) = ok (e.id, e.number)
ended_answer (Err e) = refused (number_of e)
