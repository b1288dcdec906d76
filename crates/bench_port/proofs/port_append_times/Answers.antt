use Rattle.bench_port.specs.Appends.{times_of}
use Rattle.bench_port.proofs.port_append_times.Goals as goal

pub returns : goal.returns
unfolding times_of
returns c =
    rw (c.appends.ensures, ← c.mount-s.ensures, ← c.open_append-a.ensures)
