use Rattle.format.proofs.Ways.{head_fits, no_chunks, spent, over}
use Rattle.format.proofs.format_over.Goals as goal

pub returns-then-chunks-eq0 : goal.returns-then-chunks-eq0
returns-then-chunks-eq0 c =
    let a = c.args in
    no_chunks a.c a.size a.seed a.volume.now a.medium c.sectors.ensures c.chunks_for-chunks.ensures.0
    c.if-chunks-eq0.true c.refused.ensures

pub returns-then-newest-eq18446744073709551615 : goal.returns-then-newest-eq18446744073709551615
returns-then-newest-eq18446744073709551615 c =
    let a = c.args in
    spent a.c a.size a.seed a.volume.now a.medium c.sectors.ensures c.chunks_for-chunks.ensures.0
    c.if-chunks-eq0.false c.newest.ensures c.if-newest-eq18446744073709551615.true c.refused-then-newest-eq18446744073709551615.ensures

pub make-requires : goal.make-requires
make-requires c =
    let a = c.args in
    let f = head_fits a.c a.medium c.chunks_for-chunks.result a.size a.seed c.chunks_for-chunks.ensures.1
    c.format_head-head.ensures in
    (c.requires.0, f.0, f.1)

pub returns : goal.returns
returns c =
    let a = c.args in
    over a.c a.size a.seed a.volume.now a.medium c.sectors.ensures c.chunks_for-chunks.ensures.0
    c.if-chunks-eq0.false c.newest.ensures c.if-newest-eq18446744073709551615.false c.format_head-head.ensures
    c.copy_for.ensures c.make.ensures
