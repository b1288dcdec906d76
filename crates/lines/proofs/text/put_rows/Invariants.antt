use Prim.Native.Nat.{◌+◌, ◌*◌, ◌≤◌}
use mathlib.Core.Path.{◌≡◌}
use lib.ListN.{length}
use Rattle.decimal.specs.Decimal.{Put}
use Rattle.lines.specs.Text.{rows_text}
use Rattle.lines.proofs.text.put_rows.Given as goal

abbrev pub invariant-loop-i : goal.invariant-loop-i
invariant-loop-i l = (l.i ≤ l.count) × (length l.out ≡ length l.initial.out) × Put l.at (rows_text l.i l.rows) l.initial.out l.out l.end × (l.end ≤ l.at + 96 * l.i)
