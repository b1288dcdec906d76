-- 01, "Record": what create and open_append answer. Accepted, a new appender, which the store names as its writer; refused, an appender that no call
-- accepts. Assumes nothing.
use Rattle.std.specs.Prelude.{ℕ, ◌+◌, ◌%◌, ◌^◌, List}
use Rattle.le.specs.Part.{zeros}
use Rattle.medium.specs.declared.Error.{Error}
use Rattle.medium.specs.declared.Medium.{Medium}
use Rattle.handles.specs.declared.Store.{Store}
use Rattle.handles.specs.Handles.{opened_by}
use Rattle.append.specs.declared.Appender.{Appender}
use Rattle.append.specs.declared.Tail.{Tail}
use Rattle.append.specs.Appender.{no_appender}
use Rattle.append.specs.Flush.{AppOut, done, stopped}
use Rattle.files.specs.declared.Rollover.{Rollover}

abbrev pub refused_at : List ℕ → Medium → Store → Error → AppOut
refused_at vol m st e = stopped vol m st no_appender e

-- the token after the last one, which wraps
abbrev pub next_token : Medium → ℕ
next_token m = (m.token + 1) % 2 ^ 32

abbrev pub with_token : Medium → Medium
with_token m = record { left = m.left; unreadable = m.unreadable; entropy = m.entropy; token = next_token m }

-- the store, written by the appender of that token
abbrev pub written_by : ℕ → ℕ → Store → Store
written_by token id st = record { copy = st.copy; head = st.head; writer = opened_by token id; free = st.free }

-- a new appender of a file, with nothing unwritten
abbrev pub new_appender : ℕ → ℕ → ℕ → ℕ → ℕ → Tail → Rollover → Appender
new_appender token slot id chunk position tail rollover =
    record {
      token = token;
      slot = slot;
      id = id;
      chunk = chunk;
      position = position;
      tail = tail;
      fill = 0;
      buffer = zeros 486;
      rolls = rollover.rolls;
      dir = rollover.dir;
    }

unfoldable pub opened_out : List ℕ → Medium → Store → ℕ → ℕ → ℕ → ℕ → Tail → Rollover → AppOut
opened_out vol m st slot id chunk position tail rollover =
    done vol (with_token m) (written_by (next_token m) id st) (new_appender (next_token m) slot id chunk position tail rollover)
