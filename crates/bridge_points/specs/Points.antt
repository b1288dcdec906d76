-- The calls of S-1 in numbers: as in bridge/Calls and bridge_write/Writing. Assumes nothing.
use Rattle.std.specs.Prelude.{ℕ, List, [], ◌∷◌, get_or}
use Rattle.reader.specs.declared.Upto.{Upto}
use Rattle.reader.specs.Upto.{UptoCall, below_call}
use Rattle.points.specs.Set.{SetCall, set_call}
use Rattle.points.specs.Reading.{PointCall, point_call}
use Rattle.bridge.specs.Numbers.{code_of, narrow_of, medium_of, medium_words, store_of, flag_of, store_words, reader_of, reader_words, item_words}
use Rattle.bridge_write.specs.Writing.{appender_words}

-- ---- a point set: its number, and whether MARKS was opened, in one row

abbrev pub set_words : SetCall → List ℕ × ℕ × List ℕ × List ℕ × List ℕ × List ℕ × List ℕ × List ℕ × List ℕ
set_words s = (
  s.vol,
  code_of s.call.answer,
  s.call.number ∷ flag_of s.call.opened ∷ 0 ∷ [],
  store_words s.call.store,
  s.call.store.head.crcs,
  appender_words s.call.appender,
  s.call.appender.buffer,
  s.call.appender.dir.bytes,
  medium_words s.call.medium,
)

unfoldable pub set_at : List ℕ → List ℕ → List ℕ → List ℕ → List ℕ → List ℕ
    → List ℕ × ℕ × List ℕ × List ℕ × List ℕ × List ℕ × List ℕ × List ℕ × List ℕ
set_at vol m st crcs p name = set_words (set_call vol (medium_of m) (store_of st crcs) p name)

-- ---- a reader up to a record number

unfoldable pub upto_of : List ℕ → List ℕ → Upto
upto_of rd limit = record { reader = reader_of rd; limit = narrow_of (get_or limit 0 0) }

unfoldable pub upto_limit : Upto → List ℕ
upto_limit u = u.limit ∷ []

-- read up to a point

abbrev pub point_words : PointCall → ℕ × List ℕ × List ℕ × List ℕ
point_words r = (code_of r.answer, reader_words r.upto.reader, upto_limit r.upto, medium_words r.medium)

unfoldable pub point_at : List ℕ → List ℕ → List ℕ → List ℕ → List ℕ → ℕ × List ℕ × List ℕ × List ℕ
point_at vol m st crcs p = point_words (point_call vol (medium_of m) (store_of st crcs) p)

-- its next

abbrev pub below_words : UptoCall → ℕ × List ℕ × List ℕ × List ℕ × List ℕ × List ℕ
below_words r = (
  code_of r.answer,
  item_words r.answer,
  reader_words r.upto.reader,
  upto_limit r.upto,
  r.out,
  medium_words r.medium,
)

unfoldable pub below_at : List ℕ → List ℕ → List ℕ → List ℕ → List ℕ → List ℕ → List ℕ → ℕ × List ℕ × List ℕ × List ℕ × List ℕ × List ℕ
below_at vol m st crcs rd limit out = below_words (below_call vol (medium_of m) (store_of st crcs) (upto_of rd limit) out)
