use mathlib.Core.Path.{sym, ap, ◌∙◌}
use mathlib.Core.Bool.{false≢true}
use native.Mathlib.Omega.{arith}
use Rattle.plan.specs.Copy.{is_format}
use Rattle.plan.proofs.Laws.{create_fits, extend_fits, remove_fits}
use Rattle.plan.proofs.Maps.{unfit_after, created_map, extended_map, removed_map}
use Rattle.plan.proofs.map.map_after.Goals as goal

pub returns-then-not-map : goal.returns-then-not-map
returns-then-not-map c = unfit_after c.args.volume.now c.args.store _ _ c.requires.3 c.if-not-map.true

pub taken-requires : goal.taken-requires
taken-requires c =
    let f = create_fits c.args.store.head.chunks c.in-Create.is c.requires.2 in
    (omega (arith, f.2, c.requires.1), omega arith)

pub taken-requires-in-Extend : goal.taken-requires-in-Extend
taken-requires-in-Extend c =
    let f = extend_fits c.args.store.head.chunks c.in-Extend.is c.requires.2 in
    (omega (arith, f.2, c.requires.1), omega (arith, f.3, c.requires.1))

pub freed-requires : goal.freed-requires
freed-requires c =
    (c.requires.0, c.requires.1, remove_fits c.args.store.head.chunks c.in-Remove.is c.requires.2)

pub returns-in-Format : goal.returns-in-Format
unfolding is_format
returns-in-Format c =
    absurd (false≢true (sym c.requires.3 ∙ ap is_format c.in-Format.is))

pub returns-in-Create : goal.returns-in-Create
returns-in-Create c =
    let a = c.args in
    created_map a.volume.now a.store _ a.edit c.if-not-map.false c.in-Create.is c.taken.ensures

pub returns-in-Extend : goal.returns-in-Extend
returns-in-Extend c =
    let a = c.args in
    extended_map a.volume.now a.store _ a.edit c.if-not-map.false c.in-Extend.is c.taken-in-Extend.ensures

pub returns-in-Remove : goal.returns-in-Remove
returns-in-Remove c =
    let a = c.args in
    removed_map a.volume.now a.store _ a.edit c.if-not-map.false c.in-Remove.is c.freed.ensures
