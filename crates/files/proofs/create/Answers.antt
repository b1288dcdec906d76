use borrow.Author.Tests.{not-false}
use borrow.Author.Tests.{not-true}
use Rattle.std.proofs.Common.{◌≡◌, length, ◌∙◌, rules}
use Rattle.files.proofs.Ways.{create_first, create_second, create_corrupt}
use Rattle.files.proofs.Keeps.{again_good}
use Rattle.files.proofs.create.Goals as goal

pub returns-then-not-first : goal.returns-then-not-first
returns-then-not-first c =
    let a = c.args in
    create_first a.name.now a.rollover a.volume.now a.medium a.store c.round-first.ensures (not-true _ c.if-not-first.true)

pub round-second-requires : goal.round-second-requires
round-second-requires c =
    let count : length c.args.store.head.crcs ≡ 24 = search (rules, c.well_formed.1.1.0.0) in
    let a = c.args in (
      (again_good a.volume.now a.medium a.store a.rollover a.name.now c.requires.1 (record { ok = c.requires.0; count = count })
          c.round-first.ensures (not-false _ c.if-not-first.false)).ok,
      c.requires.1,
      c.requires.2,
    )

pub returns-then-not-second : goal.returns-then-not-second
returns-then-not-second c =
    let a = c.args in
    create_second a.name.now a.rollover a.volume.now a.medium a.store c.round-first.ensures (not-false _ c.if-not-first.false)
    c.round-second.ensures (not-true _ c.if-not-second.true)

pub shape_of-volume : goal.shape_of-volume
shape_of-volume c =
    c.round-second.auto.volume ∙ c.round-first.auto.volume

pub returns : goal.returns
returns c =
    let a = c.args in
    create_corrupt a.name.now a.rollover a.volume.now a.medium a.store c.round-first.ensures (not-false _ c.if-not-first.false)
    c.round-second.ensures (not-false _ c.if-not-second.false) c.refused.ensures
