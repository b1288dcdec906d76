use mathlib.Core.Path.{refl, sym, ◌∙◌}
use Prim.Native.Nat.{zero-le}
use native.Mathlib.Omega.{arith}
use Rattle.handles.proofs.Laws.{store_facts}
use Rattle.commit.specs.Commit.{commit_plan}
use Rattle.commit.proofs.Steps.{made_of}
use Rattle.commit.proofs.Commits.{turn, stop, ended, along, begun}
use Rattle.commit.proofs.write_body.Goals as goal

pub head_after-head-requires : goal.head_after-head-requires
head_after-head-requires c =
    let f = store_facts c.args.store _ c.requires.0 in
    (c.requires.2, f.head.chunks_least, f.head.chunks_most, c.requires.1)

pub loop-k-init : goal.loop-k-init
loop-k-init c =
    let a = c.args in (
      zero-le,
      refl,
      begun (commit_plan a.found a.edit a.name.now a.store) a.volume.now a.medium c.body-n.ensures c.head_after-head.ensures,
    )

pub write_body_sector-s-requires : goal.write_body_sector-s-requires
write_body_sector-s-requires c =
    let f = (store_facts c.args.store _ c.requires.0) in (
      f.copy,
      omega (arith, f.enough, c.loop-k.invariant.1),
      omega (arith, f.head.chunks_most, c.body-n.ensures, c.loop-k-test.true),
      c.requires.2,
      c.requires.3,
      c.requires.4,
    )

pub returns-in-Err : goal.returns-in-Err
returns-in-Err c =
    let a = c.args in
    let l = c.loop-k in
    along (stop (commit_plan a.found a.edit a.name.now a.store) c.body-n.result l.k l.volume l.m l.head
    c.loop-k-test.true c.write_body_sector-s.ensures c.in-Err.is) l.invariant.2

pub loop-k-preserved : goal.loop-k-preserved
loop-k-preserved c =
    let a = c.args in
    let l = c.loop-k in (
      omega (arith, c.loop-k-test.true),
      c.write_body_sector-s.auto.volume ∙ l.invariant.1,
      sym (turn (commit_plan a.found a.edit a.name.now a.store) c.body-n.result
          l.k l.volume l.m l.head c.loop-k-test.true c.write_body_sector-s.ensures
          c.in_default.is) ∙ l.invariant.2,
    )

pub returns : goal.returns
returns c =
    let a = c.args in
    let l = c.loop-k in
    made_of c.so_far.ensures (along
    (ended (commit_plan a.found a.edit a.name.now a.store) c.body-n.result l.k l.volume l.m l.head c.loop-k-test.false)
    l.invariant.2)
