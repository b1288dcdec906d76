-- 02, S-1: reading up to a point. It opens a reader up to the point's number, of the file with the point's id. An unknown point is 9, and so is one of a
-- store without `MARKS`; where no file has the id it is 15. Order: 3, 13, then state. Assumes nothing.
use Rattle.std.specs.Prelude.{ℕ, true, List, Result, Ok, Err}
use Rattle.medium.specs.declared.Error.{Error}
use Rattle.medium.specs.declared.Medium.{Medium}
use Rattle.medium.specs.Refusal.{Answer, ok, refused, number_of, on_done, on_ok}
use Rattle.handles.specs.declared.Store.{Store}
use Rattle.reader.specs.declared.Upto.{Upto}
use Rattle.reader.specs.Reader.{no_reader}
use Rattle.store.specs.Asked.{asked_of}
use Rattle.store.specs.Reading.{ReaderCall, reader_of_id_call}
use Rattle.points.specs.declared.UptoAnswer.{UptoAnswer}
use Rattle.points.specs.Look.{asked_point, on_place, look_of}

pub record PointCall : Type 0 where
  pub answer : Answer (Unit {0})
  pub upto : Upto
  pub medium : Medium

-- refused, a reader that no call accepts
abbrev pub no_point : Medium → ℕ → PointCall
no_point m n = record { answer = refused n; upto = record { reader = no_reader; limit = 0 }; medium = m }

abbrev pub upto_answer : Result Upto Error → Medium → PointCall
upto_answer (Ok u) m = record { answer = ok tt; upto = u; medium = m }
upto_answer (Err e) m = no_point m (number_of e)

abbrev pub point_answer : UptoAnswer → PointCall
point_answer r = upto_answer r.upto r.medium

-- the reader of the file, up to the number
abbrev pub upto_of : ℕ → ReaderCall → PointCall
upto_of number r =
    record { answer = r.answer; upto = record { reader = r.reader; limit = on_ok r.answer (λ t. number) (λ n. 0) }; medium = r.medium }

unfoldable pub point_call : List ℕ → Medium → Store → List ℕ → PointCall
point_call vol m st p =
    on_done (asked_point (asked_of vol st true) p)
    (on_ok (look_of vol m st p)
    (λ l. on_place l (no_point m 9) (no_point m 9) (λ id number. upto_of number (reader_of_id_call vol m st id)))
    (no_point m))
    (λ e. no_point m (number_of e))
