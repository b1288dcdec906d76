-- A format never gives 11. Assumes nothing.
use mathlib.Core.Path.{refl}
use mathlib.Core.Bool.{◌&&◌}
use mathlib.Core.List.{List}
use Prim.Native.Nat.{ℕ}
use lib.Dec.{leb}
use Rattle.le.proofs.Choices.{pick_keeps}
use Rattle.medium.specs.declared.Medium.{Medium}
use Rattle.medium.specs.Sector.{sectors_of}
use Rattle.medium.proofs.Laws.{on_done_keeps}
use Rattle.medium.proofs.Stale.{NotStale, no_stale}
use Rattle.header.specs.declared.answers.Copies.{Copies}
use Rattle.header.specs.Copies.{headers_of}
use Rattle.header.proofs.Stale.{headers_not_stale}
use Rattle.plan.specs.Copy.{Out}
use Rattle.plan.proofs.Stale.{copy_not_stale}
use Rattle.format.specs.Format.{chunks_of, copy_for, format_head, format_plan, format_over, format_of}

abbrev Right : Out → Type 0
Right o = NotStale o.ans.outcome

pub format_not_stale : (size seed : ℕ) (vol : List ℕ) (m : Medium) → NotStale (format_of size seed vol m).ans.outcome
unfolding format_of format_over
format_not_stale size seed vol m =
    let c : Copies = headers_of vol m in
    pick_keeps Right (leb 1 size && leb size 512) _ _
    (on_done_keeps Right c.outcome _ _
    (λ _. pick_keeps Right _ _ _ refl
    (pick_keeps Right _ _ _ refl (copy_not_stale (format_plan (copy_for c) (format_head c m (chunks_of (sectors_of vol) size) size seed)) vol m)))
    (λ e q. no_stale (headers_not_stale vol m) q))
    refl
