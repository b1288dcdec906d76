use mathlib.Core.Path.{◌∙◌}
use native.Mathlib.Omega.{arith}
use Rattle.handles.proofs.Laws.{store_facts}
use Rattle.plan.specs.Edit.{head_after}
use Rattle.plan.specs.Copy.{Plan}
use Rattle.medium.specs.Sector.{sectors_of}
use Prim.Native.Nat.{◌≤◌}
use Rattle.commit.specs.Commit.{commit_plan}
use Rattle.commit.proofs.Steps.{made_of}
use Rattle.commit.proofs.Commits.{fits_still, body_chunks, first_refused, body_refused, last_refused, made}
use Rattle.commit.proofs.rewrite.Goals as goal

-- ---- needs
pub map_after-free-requires : goal.map_after-free-requires
map_after-free-requires c = let f = store_facts c.args.store _ c.requires.0 in (f.enough, f.head.chunks_most, c.requires.2, c.requires.3)

pub overflow_sub-copy : goal.overflow_sub-copy
overflow_sub-copy c = omega (arith, (store_facts c.args.store _ c.requires.0).copy)

pub zero_sector-z-requires : goal.zero_sector-z-requires
zero_sector-z-requires c =
    omega (
      arith,
      c.base.ensures.1,
      (store_facts c.args.store _ c.requires.0).enough,
    )

pub returns-in-Err : goal.returns-in-Err
unfolding commit_plan
returns-in-Err c =
    let plan : Plan = commit_plan c.args.found c.args.edit c.args.name.now c.args.store in
    made_of c.refused.ensures (first_refused plan c.args.volume.now c.args.medium c.base.ensures.0
    c.zero_sector-z.ensures c.in-Err.is)

pub write_body-b-requires : goal.write_body-b-requires
write_body-b-requires c = (
  fits_still c.args.store c.args.volume.now c.zero_sector-z.new.volume c.zero_sector-z.auto.volume c.requires.0,
  c.requires.1,
  c.requires.2,
  c.requires.3,
  c.requires.4,
)

pub returns-in-Err-bo : goal.returns-in-Err-bo
unfolding commit_plan head_after
returns-in-Err-bo c =
    let plan : Plan = commit_plan c.args.found c.args.edit c.args.name.now c.args.store in
    made_of c.refused-in-Err-bo.ensures (body_refused plan c.args.volume.now c.args.medium c.base.ensures.0
    c.zero_sector-z.ensures c.in_default.is c.write_body-b.ensures c.in-Err-bo.is)

pub write_head-w-requires : goal.write_head-w-requires
unfolding commit_plan head_after
write_head-w-requires c =
    let plan : Plan = commit_plan c.args.found c.args.edit c.args.name.now c.args.store in
    let Ranges : Type 0 = (64 ≤ sectors_of c.write_body-b.new.volume) × (c.write_body-b.result.head.chunks ≤ 2048) in
    let ranges : Ranges = let f = store_facts c.args.store _ c.requires.0 in
    let e : 64 ≤ sectors_of c.zero_sector-z.new.volume = omega (arith, f.enough, c.zero_sector-z.auto.volume) in
    let q = body_chunks plan _ _ c.write_body-b.ensures (record { short = c.requires.4; enough = e }) f.head.chunks_most in
    (omega (arith, e, c.write_body-b.auto.volume), omega (arith, f.head.chunks_most, q)) in
    ranges

pub shape_of-volume-in-Err-wo : goal.shape_of-volume-in-Err-wo
shape_of-volume-in-Err-wo c =
    c.write_head-w.auto.volume ∙ c.write_body-b.auto.volume ∙ c.zero_sector-z.auto.volume

pub returns-in-Err-wo : goal.returns-in-Err-wo
unfolding commit_plan head_after
returns-in-Err-wo c =
    let plan : Plan = commit_plan c.args.found c.args.edit c.args.name.now c.args.store in
    made_of c.refused-in-Err-wo.ensures (last_refused plan c.args.volume.now c.args.medium c.base.ensures.0
    c.zero_sector-z.ensures c.in_default.is c.write_body-b.ensures c.in_default-bo.is
    c.write_head-w.ensures c.in-Err-wo.is)

pub shape_of-volume : goal.shape_of-volume
shape_of-volume c =
    c.write_head-w.auto.volume ∙ c.write_body-b.auto.volume ∙ c.zero_sector-z.auto.volume

pub returns : goal.returns
unfolding commit_plan head_after
returns c =
    let plan : Plan = commit_plan c.args.found c.args.edit c.args.name.now c.args.store in
    made_of c.finished.ensures (made plan c.args.volume.now c.args.medium c.base.ensures.0 c.zero_sector-z.ensures
    c.in_default.is c.write_body-b.ensures c.in_default-bo.is c.write_head-w.ensures
    c.map_after-free.ensures c.in_default-wo.is)
