use Rattle.std.proofs.Common.{Some, None}
use borrow.Author.Rules.{rules}
use Prim.Native.Nat.{◌+◌}
use mathlib.Core.Path.{refl, sym, ap, ◌∙◌}
use mathlib.Core.List.{List}
use Prim.Native.Nat.{ℕ}
use native.Mathlib.Omega.{arith}
use lib.ListN.{take, drop}
use Rattle.lines.specs.Input.{gather_of}
use Rattle.lines.proofs.Gathers.{gather_end, gather_more, gather_none, gathered}
use Rattle.lines.proofs.input.gather.Goals as goal

pub loop-i-init : goal.loop-i-init
loop-i-init c = (omega arith, omega arith, refl, omega arith, refl, refl)

pub returns-then-b-eq10 : goal.returns-then-b-eq10
returns-then-b-eq10 c =
    let l = c.loop-i in
    let a = c.args in (
      gathered a.bytes.now l.line (record { fill = l.fill; next = Some (l.i + 1) }) (sym l.invariant.5 ∙ gather_end (take l.fill l.line) a.bytes.now l.i (omega arith) c.if-b-eq10.true)
          (omega arith) (omega arith),
      λ h. omega arith,
    )

pub loop-i-preserved : goal.loop-i-preserved
loop-i-preserved c =
    let l = c.loop-i in
    let a = c.args in
    let k = c.keep-fill.ensures in (
      omega arith,
      omega arith,
      omega arith,
      k.1,
      search rules,
      ap (λ (x : List ℕ). gather_of x (drop (l.i + 1) a.bytes.now)) k.0 ∙ sym
          (gather_more (take l.fill l.line) a.bytes.now l.i (omega arith) c.if-b-eq10.false) ∙ l.invariant.5,
    )

pub returns : goal.returns
returns c =
    let l = c.loop-i in
    let a = c.args in (
      gathered a.bytes.now l.line (record { fill = l.fill; next = None }) (sym l.invariant.5 ∙ gather_none (take l.fill l.line) a.bytes.now l.i (omega arith)) (omega arith)
          (omega arith),
      λ h. omega arith,
    )
