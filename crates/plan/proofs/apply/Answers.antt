use native.Mathlib.Omega.{arith}
use mathlib.Core.Path.{◌∙◌}
use Rattle.plan.specs.Edit.{edit_of}
use Rattle.plan.proofs.Laws.{create_fits, extend_fits, remove_fits, zeroed}
use Rattle.plan.proofs.apply.Goals as goal

pub put_link-requires : goal.put_link-requires
put_link-requires c =
    let f = (create_fits c.args.chunks c.in-Create.is c.requires.2) in
    rw c.plain_link.ensures (
      omega (
        arith,
        c.put_file.auto,
        c.requires,
      ),
      f.0,
      omega arith,
      omega arith,
    )

pub put_link-requires-in-Extend : goal.put_link-requires-in-Extend
put_link-requires-in-Extend c =
    let f = (extend_fits c.args.chunks c.in-Extend.is c.requires.2) in
    rw c.plain_link-in-Extend.ensures (omega (arith, c.requires), f.0, f.1, omega arith)

pub mark-requires : goal.mark-requires
mark-requires c =
    let f = (extend_fits c.args.chunks c.in-Extend.is c.requires.2) in
    rw c.partial_link-old.ensures (
      omega (
        arith,
        c.put_link-in-Extend.auto,
        c.requires,
      ),
      f.0,
      omega (arith, f.1),
      f.4,
    )

pub clear_slot-requires : goal.clear_slot-requires
clear_slot-requires c = (
  omega (arith, c.requires),
  remove_fits c.args.chunks c.in-Remove.is c.requires.2,
)

pub returns-in-Format : goal.returns-in-Format
unfolding edit_of
returns-in-Format c =
    rw c.in-Format.is (c.put_zeros.ensures ∙ zeroed c.args.sector.now c.requires.0)

pub returns-in-Create : goal.returns-in-Create
unfolding edit_of
returns-in-Create c =
    rw (c.in-Create.is, ← c.put_file.ensures, ← c.plain_link.ensures)
    c.put_link.ensures

pub returns-in-Extend : goal.returns-in-Extend
unfolding edit_of
returns-in-Extend c =
    rw (
      c.in-Extend.is,
      ← c.plain_link-in-Extend.ensures,
      ← c.put_link-in-Extend.ensures,
      ← c.partial_link-old.ensures,
    ) c.mark.ensures

pub returns-in-Remove : goal.returns-in-Remove
unfolding edit_of
returns-in-Remove c = rw c.in-Remove.is c.clear_slot.ensures
