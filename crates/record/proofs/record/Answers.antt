use mathlib.Core.Path.{ap, ◌∙◌}
use native.Mathlib.Nat.{add-sub_cancel_left}
use Rattle.std.specs.Prelude.{Ok}
use Rattle.le.specs.Part.{part}
use Rattle.le.proofs.Turns.{told}
use Rattle.medium.specs.Refusal.{on_done}
use Rattle.medium.specs.Sector.{sector_at}
use Rattle.record.specs.Record.{heard_of, read_record_of}
use Rattle.record.proofs.Verdicts.{heard_judged}
use Rattle.record.proofs.record.Goals as goal

pub returns : goal.returns
unfolding read_record_of on_done sector_at part
returns c =
    rw (← c.data-at.ensures, told c.readable.ensures c.in_ok-readable.was)
    (ap Ok (c.heard.ensures ∙ ap heard_of (simp add-sub_cancel_left at c.judge-verdict.ensures) ∙ heard_judged _ _ _ _))
