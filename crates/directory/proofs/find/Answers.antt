use Rattle.std.proofs.Common.{rules}
use Rattle.runs.specs.Run.{same_bytes}
use Rattle.directory.specs.Scan.{find_of}
use Rattle.directory.proofs.find.Goals as goal

pub returns : goal.returns
unfolding find_of
returns c = c.first.ensures (λ _ found. same_bytes c.args.name.now found) (λ id found b p. search rules)
