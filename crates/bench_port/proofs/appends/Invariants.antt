use Rattle.std.proofs.Common.{◌-◌}
use Rattle.bench_port.proofs.Turns.{Going}
use Rattle.bench_port.proofs.appends.Given as goal

abbrev pub invariant-loop : goal.invariant-loop
invariant-loop l =
    Going l.times l.bytes l.initial.volume l.fn.medium l.fn.store l.fn.appender l.volume l.last.medium l.last.store l.last.appender l.accepted (l.times - l.counter)
