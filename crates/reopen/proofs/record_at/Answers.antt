use mathlib.Core.Path.{ap, ◌∙◌}
use Rattle.record.specs.Record.{record_at, read_record_of}
use Rattle.reopen.proofs.Counts.{number_needs, record_inside}
use Rattle.reopen.proofs.record_at.Goals as goal

pub number_at-n-requires : goal.number_at-n-requires
number_at-n-requires c =
    number_needs c.args.volume.now c.args.store c.requires.0 c.args.position c.args.index c.requires.2 c.requires.3

pub record-requires : goal.record-requires
record-requires c =
    record_inside c.args.volume.now c.args.store c.requires.0 c.args.chunk c.args.index c.requires.1 c.requires.3

pub returns : goal.returns
unfolding record_at
returns c =
    let a = c.args in
    c.record.ensures ∙ ap (read_record_of a.volume.now a.medium a.store a.id a.chunk a.index) c.number_at-n.ensures
