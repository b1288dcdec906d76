use native.Mathlib.Omega.{arith}
use Rattle.handles.proofs.Laws.{store_facts}
use Rattle.reader.proofs.Facts.{reader_facts}
use Rattle.reader.proofs.Blanks.{blank_inside}
use Rattle.reader.proofs.Reader.blank_at.Goals as goal

pub nonzero_rem-number : goal.nonzero_rem-number
nonzero_rem-number c =
    let h = store_facts _ _ c.requires.0 in
    omega (arith, h.head.size_least)

pub is_blank_at-requires : goal.is_blank_at-requires
is_blank_at-requires c =
    blank_inside c.args.volume.now c.args.store c.args.self c.args.number c.requires.0 (reader_facts _ _ c.requires.1)
