use lib.ListN.{take}
use native.Mathlib.Omega.{arith}
use Rattle.lines.proofs.Feeds.{passed_open, passed_ended}
use Rattle.lines.proofs.piece.Goals as goal

pub returns-in-None : goal.returns-in-None
returns-in-None c =
    let a = c.args in
    let g = c.gather-g.ensures in (
      passed_open a.volume.now a.session (take a.fill a.line.now) a.bytes.now a.at c.gather-g.new.line
          c.gather-g.result g.0 c.in-None.is a.out.now,
      omega arith,
      g.0.4,
      omega arith,
      λ h. h,
    )

pub returns-in-Some : goal.returns-in-Some
returns-in-Some c =
    let a = c.args in
    let g = c.gather-g.ensures in
    let r = c.answer-a.ensures in (
      passed_ended a.volume.now a.session (take a.fill a.line.now) a.bytes.now a.at c.gather-g.new.line
          c.gather-g.result g.0 c.in-Some.is a.out.now r,
      rw c.in-Some.is at g.0.3,
      omega arith,
      r.3,
      rw c.in-Some.is at g.1,
    )
