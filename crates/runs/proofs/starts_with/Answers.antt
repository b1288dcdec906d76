use mathlib.Core.Path.{◌∙◌}
use native.Mathlib.Nat.{add-sub_cancel_left}
use lib.ListN.{length}
use Rattle.runs.proofs.Runs.{same_front}
use Rattle.runs.proofs.starts_with.Goals as goal

pub returns : goal.returns
returns c = c.same.ensures ∙ rw (add-sub_cancel_left c.args.at (length c.args.what.now)) (same_front _ _)
