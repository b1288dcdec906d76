use mathlib.Core.Path.{refl}
use Rattle.std.proofs.Common.{rules}
use Rattle.le.proofs.Turns.{told}
use Rattle.reopen.proofs.Counts.{count_refused, count_valid, count_next, count_none}
use Rattle.reopen.proofs.count_records.Goals as goal

pub returns-in_err-read : goal.returns-in_err-read
returns-in_err-read c =
    let t = count_refused c.loop-index.invariant c.loop-index-test.true refl c.record_at.ensures c.in_err-read.was in
    search rules

pub returns-then-is_some : goal.returns-then-is_some
returns-then-is_some c =
    count_valid c.loop-index.invariant c.loop-index-test.true refl c.record_at.ensures _ c.in_ok-read.was
    (told c.is_some.ensures c.if-is_some.true)

pub loop-index-preserved : goal.loop-index-preserved
loop-index-preserved c =
    count_next c.loop-index.invariant c.loop-index-test.true refl c.record_at.ensures _ c.in_ok-read.was
    (told c.is_some.ensures c.if-is_some.false)

pub returns : goal.returns
returns c = count_none c.loop-index.invariant c.loop-index-test.false
