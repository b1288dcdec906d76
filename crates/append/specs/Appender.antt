-- 01, "Record": the appender, and which appenders refusal 3 takes. Assumes nothing.
use Rattle.std.specs.Prelude.{None, Option, Some}
use Rattle.std.specs.Prelude.{ℕ, ◌≤◌, ◌<◌, ◌≡◌, Bool, true, false, not, ◌&&◌, ◌||◌, List, eqb, leb, ltb, length}
use Rattle.le.specs.Part.{part, zeros}
use Rattle.names.specs.Names.{dir_ok}
use Rattle.handles.specs.declared.Store.{Store}
use Rattle.handles.specs.declared.Writer.{Writer}
use Rattle.append.specs.declared.Appender.{Appender}
use Rattle.append.specs.declared.Dir.{Dir}
use Rattle.append.specs.declared.Tail.{Tail}
use Rattle.append.specs.declared.Tail.TheVariants.{At, Reopened, Closed}

-- the directory of a rollover
unfoldable pub dir_bytes : Dir → List ℕ
dir_bytes d = part 0 d.length d.bytes

-- where the next record goes: at is at most the chunk size, reopened 1 to size − 1
unfoldable pub tail_ok : Tail → ℕ → Bool
tail_ok (At n) size = leb n size
tail_ok (Reopened n) size = leb 1 n && ltb n size
tail_ok Closed size = true

unfoldable pub is_closed : Tail → Bool
is_closed (At n) = false
is_closed (Reopened n) = false
is_closed Closed = true

-- a fill of 486 only closed
unfoldable pub fill_ok : ℕ → Tail → Bool
fill_ok fill tail = ltb fill 486 || (eqb fill 486 && is_closed tail)

-- an appender that passes refusal 3, beside a store value
unfoldable pub appender_ok : Appender → Store → Bool
appender_ok ap st =
    ltb ap.slot 64 && (not (eqb ap.id 0) && (ltb ap.chunk st.head.chunks && (leb ap.position 2047
    && (fill_ok ap.fill ap.tail && (tail_ok ap.tail st.head.chunk
    && (not ap.rolls || (leb ap.dir.length 40 && dir_ok (dir_bytes ap.dir))))))))

-- it is the appender that the store opened last, and no error closed it; else 11
unfoldable pub writes : Option Writer → ℕ → Bool
writes None token = false
writes (Some w) token = eqb w.token token

unfoldable pub live : Store → Appender → Bool
live st ap = writes st.writer ap.token && not (is_closed ap.tail)

-- what a refused call holds in the place of an appender: a value that no call accepts
unfoldable pub no_appender : Appender
no_appender =
    record {
      token = 0;
      slot = 0;
      id = 0;
      chunk = 0;
      position = 0;
      tail = Closed;
      fill = 0;
      buffer = zeros 486;
      rolls = false;
      dir = record { bytes = zeros 40; length = 0 };
    }

-- what of an appender stays while bytes are written, for the functions inside: its position may pass 2,047 where a call was given a forged one
pub record Fit (ap : Appender) (st : Store) : Type 0 where
  pub slot : ap.slot < 64
  pub chunk : ap.chunk < st.head.chunks
  pub position : ap.position ≤ 32767
  pub fill : ap.fill ≤ 486
  pub full : length ap.buffer ≡ 486
  pub tail : tail_ok ap.tail st.head.chunk ≡ true
  pub dir : ap.rolls ≡ true → ap.dir.length ≤ 40
