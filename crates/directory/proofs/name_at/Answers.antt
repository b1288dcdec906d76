use Rattle.directory.proofs.Places.{name_slice}
use Rattle.directory.proofs.name_at.Goals as goal

pub returns-clause-name : goal.returns-clause-name
returns-clause-name c = name_slice c.args.volume.now c.args.store c.args.slot c.entry_place-a.ensures.0 c.requires.2
