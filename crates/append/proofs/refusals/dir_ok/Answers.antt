use mathlib.Core.Path.{ap, ◌∙◌}
use Rattle.names.specs.Names.{dir_ok}
use Rattle.append.proofs.Rolls.{dir_slice}
use borrow.Author.Tests.{le-leb, lt-leb}
use Rattle.append.proofs.refusals.dir_ok.Goals as goal

pub returns-then-n-gt40 : goal.returns-then-n-gt40
returns-then-n-gt40 c = rw (lt-leb _ _ c.if-n-gt40.true)

pub returns : goal.returns
returns c =
    rw (le-leb _ _ c.if-n-gt40.false) (c.dir_ok.ensures ∙ ap dir_ok (dir_slice c.args.dir))
