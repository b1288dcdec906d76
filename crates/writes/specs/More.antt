-- More writes left than a call needs change nothing: what it gives from a medium record with d more is the same, with d more left. Assumes nothing.
use Rattle.std.specs.Prelude.{ℕ, ◌+◌}
use Rattle.medium.specs.declared.Medium.{Medium}
use Rattle.remove.specs.declared.Gone.{Gone}
use Rattle.append.specs.Calls.{AppCall}
use Rattle.store.specs.Writing.{WriteCall, OldestCall}

-- the same medium record with d more writes left
abbrev pub more : ℕ → Medium → Medium
more d m = record { left = m.left + d; unreadable = m.unreadable; entropy = m.entropy; token = m.token }

-- ---- what a call gives: volume, answer, handles and steps as they are, and d more writes left

abbrev pub gone_more : ℕ → Gone → Gone
gone_more d g =
    record { outcome = g.outcome; medium = more d g.medium; store = g.store; any = g.any; name = g.name; length = g.length }

abbrev pub write_more : ℕ → WriteCall → WriteCall
write_more d w = record { vol = w.vol; call = record { answer = w.call.answer; store = w.call.store; medium = more d w.call.medium }; steps = w.steps }

abbrev pub oldest_more : ℕ → OldestCall → OldestCall
oldest_more d o =
    record {
      vol = o.vol;
      call = record { answer = o.call.answer; store = o.call.store; medium = more d o.call.medium };
      gone = gone_more d o.gone;
      steps = o.steps;
    }

abbrev pub app_more : ℕ → AppCall → AppCall
app_more d a =
    record {
      vol = a.vol;
      call = record { answer = a.call.answer; medium = more d a.call.medium; store = a.call.store; appender = a.call.appender };
      steps = a.steps;
    }
