use native.Mathlib.Omega.{arith}
use Rattle.handles.proofs.Laws.{store_facts}
use Rattle.reader.proofs.Reader.go_to.Goals as goal

pub nonzero_div-position : goal.nonzero_div-position
nonzero_div-position c =
    let h = store_facts _ _ c.requires in
    omega (arith, h.head.size_least)

pub nonzero_rem-index : goal.nonzero_rem-index
nonzero_rem-index c =
    let h = store_facts _ _ c.requires in
    omega (arith, h.head.size_least)

pub enter-requires : goal.enter-requires
enter-requires c =
    let h = store_facts _ _ c.requires in
    (h.enough, h.head.chunks_most)
