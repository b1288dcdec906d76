use mathlib.Core.Path.{sym}
use Rattle.runs.proofs.Tests.{starts_long}
use Rattle.names.proofs.in_dir.Goals as goal

pub returns-then-dir-name : goal.returns-then-dir-name
returns-then-dir-name c = sym (starts_long _ _ c.if-dir-name.true)

pub returns : goal.returns
returns c = c.starts_with.ensures
