use Prim.Native.Nat.{ℕ, ◌+◌, ◌*◌, ◌≤◌}
use mathlib.Core.Path.{◌≡◌, refl, subst}
use native.Mathlib.Omega.{arith}
use lib.ListN.{length}
use Rattle.decimal.specs.Decimal.{Put}
use Rattle.decimal.proofs.Puts.{put_length}
use Rattle.lines.specs.Text.{rows_text}
use Rattle.lines.proofs.Pens.{rows_none, row_lent, rows_more}
use Rattle.lines.proofs.text.put_rows.Goals as goal

pub loop-i-init : goal.loop-i-init
loop-i-init c = (
  omega arith,
  refl,
  rows_none c.args.at c.args.out.now c.args.rows.now (omega arith),
  omega arith,
)

pub put_row-end-requires : goal.put_row-end-requires
put_row-end-requires c =
    (omega arith, row_lent c.args.rows.now c.loop-i.i (omega arith))

pub loop-i-preserved : goal.loop-i-preserved
loop-i-preserved c =
    let l = c.loop-i in
    let a = c.args in
    let p = c.put_row-end.ensures in
    let room : c.put_row-end.result ≤ length a.out.now = omega (arith, p.1, l.invariant.3) in
    let q = rows_more a.at a.out.now a.rows.now l.i room l.invariant.2 p.0 in
    (omega arith, put_length a.at (rows_text (l.i + 1) a.rows.now) a.out.now room q, q, omega (arith, p.1, l.invariant.3))

pub returns : goal.returns
returns c =
    let l = c.loop-i in
    let a = c.args in
    let e : l.i ≡ a.count = omega arith in
    subst (λ (k : ℕ). Put a.at (rows_text k a.rows.now) a.out.now l.out l.end × (l.end ≤ a.at + 96 * k)) e (l.invariant.2, l.invariant.3)
