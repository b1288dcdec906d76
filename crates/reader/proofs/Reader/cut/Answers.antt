use native.Mathlib.Omega.{arith}
use Rattle.reader.proofs.Facts.{reader_facts, number_fits}
use Rattle.reader.proofs.Cuts.{base_below}
use Rattle.reader.proofs.Reader.cut.Goals as goal

pub number_at-base-requires : goal.number_at-base-requires
number_at-base-requires c = number_fits c.args.store c.args.self 0 c.requires.0 (reader_facts _ _ c.requires.1) (omega arith)

pub overflow_sub-limit : goal.overflow_sub-limit
overflow_sub-limit c = base_below c.args.store c.args.self c.args.limit c.number_at-base.ensures c.in-Some-Ok-Hole.is-0 c.requires.2
