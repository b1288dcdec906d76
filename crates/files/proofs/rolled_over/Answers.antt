use Rattle.std.proofs.Common.{refl}
use Rattle.files.proofs.rolled_over.Goals as goal

pub returns : goal.returns
returns c = rw c.no_appender-appender.ensures refl
