use mathlib.Core.Path.{refl}
use native.Mathlib.Omega.{arith}
use Rattle.std.proofs.Common.{rules, Err}
use Rattle.le.proofs.Turns.{told}
use Rattle.walk.proofs.Laws.{at_next, at_stop, at_end}
use Rattle.record.specs.Record.{on_judged}
use Rattle.reader.specs.Next.{search_of}
use Rattle.reader.proofs.Facts.{reader_facts, number_needs}
use Rattle.reader.proofs.Finds.{record_inside, record_read, search_stops, search_goes}
use Rattle.reader.proofs.Reader.search.Goals as goal

pub loop-index-init : goal.loop-index-init
unfolding search_of
loop-index-init c = record { most = c.requires.2; same = refl }

pub number_at-number-requires : goal.number_at-number-requires
number_at-number-requires c =
    number_needs c.args.store c.args.self _ c.loop-index.index c.requires.0 (reader_facts _ _ c.requires.1) (omega (arith, c.requires.3))

pub record-requires : goal.record-requires
record-requires c =
    record_inside c.args.volume.now c.args.medium c.args.store c.args.self c.loop-index.index c.requires.0
    (reader_facts _ _ c.requires.1) (omega (arith, c.requires.3))

pub returns-in_err-read : goal.returns-in_err-read
unfolding on_judged
returns-in_err-read c =
    let a = c.args in
    let t = at_stop {r = Err c.in_err-read.field-0.0} c.loop-index.invariant c.loop-index-test.true
    (record_read a.volume.now a.medium a.store a.self _ c.number_at-number.ensures c.record.ensures) c.in_err-read.was refl in
    search rules

pub returns-then-is_some : goal.returns-then-is_some
returns-then-is_some c =
    let a = c.args in
    at_stop c.loop-index.invariant c.loop-index-test.true
    (record_read a.volume.now a.medium a.store a.self _ c.number_at-number.ensures c.record.ensures)
    c.in_ok-read.was (search_stops _ _ (told c.is_some.ensures c.if-is_some.true))

pub loop-index-preserved : goal.loop-index-preserved
loop-index-preserved c =
    let a = c.args in
    at_next c.loop-index.invariant c.loop-index-test.true
    (record_read a.volume.now a.medium a.store a.self _ c.number_at-number.ensures c.record.ensures)
    c.in_ok-read.was (search_goes _ _ (told c.is_some.ensures c.if-is_some.false))

pub returns : goal.returns
returns c = at_end c.loop-index.invariant c.loop-index-test.false
