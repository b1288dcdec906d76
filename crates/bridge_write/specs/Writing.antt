-- The calls that write, in numbers: the volume, then as in bridge/Calls. Assumes nothing.
use Rattle.std.specs.Prelude.{ℕ, not, List, [], ◌∷◌, eqb, get_or, length}
use Rattle.le.specs.Choice.{pick}
use Rattle.le.specs.Part.{over}
use Rattle.medium.specs.Refusal.{Answer, ok, refused}
use Rattle.append.specs.declared.Appender.{Appender}
use Rattle.append.specs.declared.Tail.{Tail}
use Rattle.append.specs.declared.Tail.TheVariants.{At, Reopened, Closed}
use Rattle.append.specs.Calls.{AppTold, AppCall, append_call, sync_call, room_call}
use Rattle.store.specs.Opening.{create_call, open_call}
use Rattle.store.specs.Writing.{WriteCall, format_call, delete_call, Went, none, went, OldestCall, oldest_call}
use Rattle.bridge.specs.Numbers.{code_of, narrow_of, medium_of, medium_words, store_of, flag_of, store_words, number_words}

-- ---- the appender

unfoldable pub tail_at : ℕ → ℕ → Tail
tail_at kind count = pick (eqb kind 0) (At (narrow_of count)) (pick (eqb kind 1) (Reopened (narrow_of count)) Closed)

unfoldable pub appender_of : List ℕ → List ℕ → List ℕ → Appender
appender_of w buffer dir =
    record {
      token = narrow_of (get_or w 0 0);
      slot = get_or w 1 0;
      id = narrow_of (get_or w 2 0);
      chunk = narrow_of (get_or w 3 0);
      position = narrow_of (get_or w 4 0);
      tail = tail_at (get_or w 5 0) (get_or w 6 0);
      fill = get_or w 7 0;
      buffer = buffer;
      rolls = not (eqb (get_or w 8 0) 0);
      dir = record { bytes = dir; length = get_or w 9 0 };
    }

abbrev pub tail_kind : Tail → ℕ
tail_kind (At n) = 0
tail_kind (Reopened n) = 1
tail_kind Closed = 2

abbrev pub tail_count : Tail → ℕ
tail_count (At n) = n
tail_count (Reopened n) = n
tail_count Closed = 0

unfoldable pub appender_words : Appender → List ℕ
appender_words a =
    a.token ∷ a.slot ∷ a.id ∷ a.chunk ∷ a.position ∷ tail_kind a.tail ∷ tail_count a.tail ∷ a.fill ∷ flag_of a.rolls
    ∷ a.dir.length ∷ []

-- ---- format and delete

abbrev pub write_words : WriteCall → List ℕ × ℕ × List ℕ × List ℕ × List ℕ
write_words w = (
  w.vol,
  code_of w.call.answer,
  store_words w.call.store,
  w.call.store.head.crcs,
  medium_words w.call.medium,
)

unfoldable pub format_at : List ℕ → List ℕ → ℕ → ℕ → List ℕ × ℕ × List ℕ × List ℕ × List ℕ
format_at vol m size seed = write_words (format_call vol (medium_of m) size seed)

unfoldable pub delete_at : List ℕ → List ℕ → List ℕ → List ℕ → List ℕ → List ℕ × ℕ × List ℕ × List ℕ × List ℕ
delete_at vol m st crcs name = write_words (delete_call vol (medium_of m) (store_of st crcs) name)

-- ---- delete_oldest: the name that went over the bytes lent for it

abbrev pub went_name : Answer Went → List ℕ
went_name (ok none) = []
went_name (ok (went name)) = name
went_name (refused n) = []

abbrev pub went_words : Answer Went → List ℕ
went_words (ok none) = 0 ∷ 0 ∷ 0 ∷ []
went_words (ok (went name)) = 1 ∷ length name ∷ 0 ∷ []
went_words (refused n) = 0 ∷ 0 ∷ 0 ∷ []

abbrev pub oldest_words : List ℕ → OldestCall → List ℕ × ℕ × List ℕ × List ℕ × List ℕ × List ℕ × List ℕ
oldest_words lent r = (
  r.vol,
  code_of r.call.answer,
  went_words r.call.answer,
  over 0 (went_name r.call.answer) lent,
  store_words r.call.store,
  r.call.store.head.crcs,
  medium_words r.call.medium,
)

unfoldable pub oldest_at : List ℕ → List ℕ → List ℕ → List ℕ → List ℕ → List ℕ → List ℕ × ℕ × List ℕ × List ℕ × List ℕ × List ℕ × List ℕ
oldest_at vol m st crcs dir lent = oldest_words lent (oldest_call vol (medium_of m) (store_of st crcs) dir)

-- ---- append and sync

abbrev pub app_words : AppCall → List ℕ × ℕ × List ℕ × List ℕ × List ℕ × List ℕ × List ℕ × List ℕ
app_words r = (
  r.vol,
  code_of r.call.answer,
  store_words r.call.store,
  r.call.store.head.crcs,
  appender_words r.call.appender,
  r.call.appender.buffer,
  r.call.appender.dir.bytes,
  medium_words r.call.medium,
)

unfoldable pub append_at : List ℕ → List ℕ → List ℕ → List ℕ → List ℕ → List ℕ → List ℕ → List ℕ
    → List ℕ × ℕ × List ℕ × List ℕ × List ℕ × List ℕ × List ℕ × List ℕ
append_at vol m st crcs ap buffer dir bytes =
    app_words (append_call vol (medium_of m) (store_of st crcs) (appender_of ap buffer dir) bytes)

unfoldable pub sync_at : List ℕ → List ℕ → List ℕ → List ℕ → List ℕ → List ℕ → List ℕ → List ℕ × ℕ × List ℕ × List ℕ × List ℕ × List ℕ × List ℕ × List ℕ
sync_at vol m st crcs ap buffer dir = app_words (sync_call vol (medium_of m) (store_of st crcs) (appender_of ap buffer dir))

unfoldable pub room_at : List ℕ → List ℕ → List ℕ → ℕ × List ℕ
room_at ap buffer dir = (code_of (room_call (appender_of ap buffer dir)), number_words (room_call (appender_of ap buffer dir)))

-- ---- create and open_append; the second writes nothing

unfoldable pub create_at : List ℕ → List ℕ → List ℕ → List ℕ → List ℕ → ℕ → List ℕ → List ℕ × ℕ × List ℕ × List ℕ × List ℕ × List ℕ × List ℕ × List ℕ
create_at vol m st crcs name rolls dir = app_words (create_call vol (medium_of m) (store_of st crcs) name (not (eqb rolls 0)) dir)

abbrev pub open_words : AppTold → ℕ × List ℕ × List ℕ × List ℕ × List ℕ × List ℕ × List ℕ
open_words r = (
  code_of r.answer,
  store_words r.store,
  r.store.head.crcs,
  appender_words r.appender,
  r.appender.buffer,
  r.appender.dir.bytes,
  medium_words r.medium,
)

unfoldable pub open_at : List ℕ → List ℕ → List ℕ → List ℕ → List ℕ → ℕ → List ℕ → ℕ × List ℕ × List ℕ × List ℕ × List ℕ × List ℕ × List ℕ
open_at vol m st crcs name rolls dir = open_words (open_call vol (medium_of m) (store_of st crcs) name (not (eqb rolls 0)) dir).call
