-- How far an appender gets in one call. Append's own test, a 7 at position 32,767 (append/Flush `extend_of`), hands back an appender that stands there:
-- a call that this holds of does not meet it. Assumes nothing.
use Rattle.std.specs.Prelude.{◌≤◌}
use Rattle.plan.specs.Copy.{Skipped}
use Rattle.append.specs.Calls.{AppCall}
use Rattle.power.specs.History.{EachStep}

-- where this holds of each body sector that the call left unwritten: at most 2,047, which number 3 lets in, and twice the 2,048 chunks
abbrev pub StaysNear : (Skipped → Type 0) → AppCall → Type 0
StaysNear P c = EachStep P c.steps → c.call.appender.position ≤ 6143
