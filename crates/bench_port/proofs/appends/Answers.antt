use Rattle.std.proofs.Common.{◌≡◌, ℕ, ◌-◌, ◌+◌, refl, ap, ◌∙◌, arith}
use Rattle.bench_port.proofs.Turns.{Going, again, appends_end, going_start, going_on}
use Rattle.bench_port.proofs.appends.Goals as goal

pub loop-init : goal.loop-init
loop-init c = going_start _ _ _ _ _ _

pub loop-preserved : goal.loop-preserved
loop-preserved c =
    let l = c.loop in
    let g = c.args in
    going_on l.counter (omega arith)
    (again g.times g.bytes.now g.volume.now g.medium g.store g.appender l.volume l.last.medium l.last.store l.last.appender l.accepted (g.times - l.counter)
    c.append-last.result l.invariant (omega arith) c.append-last.auto.volume c.append-last.ensures c.once-accepted.ensures)

pub returns : goal.returns
returns c =
    let l = c.loop in
    let g = c.args in
    appends_end l.accepted (g.times - l.counter) g.bytes.now l.volume l.last.medium l.last.store l.last.appender (omega arith) ∙ l.invariant.same
