use mathlib.Core.Path.{refl}
use native.Mathlib.Omega.{arith}
use lib.Dec.{lit≤}
use Rattle.plan.specs.Copy.{is_format}
use Rattle.commit.proofs.Steps.{made_of}
use Rattle.append.proofs.Ways.{link_refused, link_done}
use Rattle.append.proofs.chunks.link.Goals as goal

pub commit-c-requires : goal.commit-c-requires
unfolding is_format
commit-c-requires c = let p = c.requires in (p.0, (p.1.slot, omega (arith, p.2), p.4, p.1.chunk, p.3), refl, lit≤ tt)

pub returns-in-Err : goal.returns-in-Err
returns-in-Err c =
    let a = c.args in
    made_of c.stopped.ensures (link_refused a.volume.now a.medium a.store a.appender a.partial a.records a.next
    c.commit-c.ensures c.in-Err.is)

pub moved_to-moved-requires : goal.moved_to-moved-requires
moved_to-moved-requires c = c.requires.2

pub returns : goal.returns
returns c =
    let a = c.args in
    made_of c.finished.ensures (link_done a.volume.now a.medium a.store a.appender a.partial a.records a.next
    c.commit-c.ensures c.in_default.is c.moved_to-moved.ensures)
