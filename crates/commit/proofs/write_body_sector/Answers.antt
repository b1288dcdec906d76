use native.Mathlib.Omega.{arith}
use Rattle.le.specs.Part.{zeros}
use Rattle.commit.specs.Commit.{commit_plan}
use Rattle.commit.proofs.Steps.{made_of, skipped, refused, kept, written}
use Rattle.commit.proofs.write_body_sector.Goals as goal

pub returns-then-changing-lists : goal.returns-then-changing-lists
unfolding commit_plan
returns-then-changing-lists c =
    let a = c.args in
    made_of c.so_far.ensures (skipped (commit_plan a.found a.edit a.name.now a.store) a.volume.now a.medium a.head a.k c.requires.4
    c.changes-changing.ensures c.lists.ensures c.if-changing-lists.true)

pub returns-in-Err : goal.returns-in-Err
unfolding commit_plan
returns-in-Err c =
    let a = c.args in
    made_of c.so_far-in-Err.ensures (refused (commit_plan a.found a.edit a.name.now a.store) a.volume.now a.medium a.head a.k
    c.requires.4 c.changes-changing.ensures c.lists.ensures c.if-changing-lists.false c.read_body-o.ensures.0
    c.in-Err.is)

pub returns-then-lists : goal.returns-then-lists
unfolding commit_plan zeros
returns-then-lists c =
    let a = c.args in
    made_of c.so_far-then-lists.ensures (kept (commit_plan a.found a.edit a.name.now a.store) a.volume.now a.medium a.head a.k c.requires.4
    c.changes-changing.ensures c.lists.ensures c.if-changing-lists.false c.read_body-o.ensures.0
    c.in_default.is (zeros 512) c.read_body-o.ensures.1 c.edited.ensures
    c.crc_of-crc.ensures c.lists-2.ensures c.if-lists.true)

pub write_sector-w-requires : goal.write_sector-w-requires
write_sector-w-requires c =
    omega (
      arith,
      c.requires,
      c.base.ensures.1,
    )

pub returns : goal.returns
unfolding commit_plan zeros
returns c =
    let a = c.args in
    made_of c.so_far-2.ensures (written (commit_plan a.found a.edit a.name.now a.store) a.volume.now a.medium a.head a.k
    c.requires.4 c.changes-changing.ensures c.lists.ensures c.if-changing-lists.false c.read_body-o.ensures.0
    c.in_default.is (zeros 512) c.read_body-o.ensures.1 c.edited.ensures
    c.crc_of-crc.ensures c.lists-2.ensures c.if-lists.false c.base.ensures.0
    c.write_sector-w.ensures)
