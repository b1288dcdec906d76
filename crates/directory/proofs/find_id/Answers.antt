use Rattle.std.proofs.Common.{rules, nat_eq}
use Rattle.directory.specs.Scan.{find_id_of}
use Rattle.directory.proofs.find_id.Goals as goal

pub returns : goal.returns
unfolding find_id_of
returns c = c.first.ensures (λ found _. nat_eq found c.args.id) (λ found name b p. search rules)
