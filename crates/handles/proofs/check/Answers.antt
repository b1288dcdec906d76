use mathlib.Core.Path.{◌≡◌, ◌∙◌}
use native.Mathlib.Nat.{add-sub_cancel_left}
use borrow.Author.Rules.{rules}
use borrow.Author.Tests.{eq-eqb, ne_eqb}
use Rattle.std.proofs.Common.{Err}
use Rattle.le.specs.Choice.{pick}
use Rattle.le.specs.Part.{part}
use Rattle.le.proofs.Turns.{told}
use Rattle.medium.specs.Refusal.{on_done}
use Rattle.medium.specs.Sector.{sector_at}
use Rattle.handles.specs.Body.{check_of}
use Rattle.handles.proofs.check.Goals as goal

pub returns-in_err-readable : goal.returns-in_err-readable
unfolding check_of on_done
returns-in_err-readable c =
    let e : c.from_residual.result ≡ Err c.in_err-readable.field-0.0 = search rules in
    e ∙ rw (← c.base.ensures.0, told c.readable.ensures c.in_err-readable.was)

pub returns-then-crc32-head : goal.returns-then-crc32-head
unfolding check_of on_done sector_at part pick
returns-then-crc32-head c =
    rw (
      ← c.base.ensures.0,
      told c.readable.ensures c.in_ok-readable.was,
      ← (simp add-sub_cancel_left at c.crc32.ensures),
      eq-eqb _ _ c.if-crc32-head.true,
    )

pub returns-else-crc32-head : goal.returns-else-crc32-head
unfolding check_of on_done sector_at part pick
returns-else-crc32-head c =
    rw (
      ← c.base.ensures.0,
      told c.readable.ensures c.in_ok-readable.was,
      ← (simp add-sub_cancel_left at c.crc32.ensures),
      ne_eqb _ _ c.if-crc32-head.false,
    )
