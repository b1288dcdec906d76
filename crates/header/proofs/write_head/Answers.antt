use mathlib.Core.Path.{◌∙◌}
use Rattle.medium.proofs.Laws.{write_refused, write_done, in_place}
use Rattle.handles.specs.Handles.{base_of}
use Rattle.header.specs.Header.{encode_of}
use Rattle.header.proofs.write_head.Goals as goal

pub returns-in-Err : goal.returns-in-Err
returns-in-Err c =
    let a = c.args in
    write_refused a.volume.now a.medium (base_of a.copy) (encode_of a.head) c.spend-w.ensures c.in-Err.is

pub returns : goal.returns
returns c =
    let a = c.args in
    let p = c.encode in
    write_done a.volume.now a.medium (base_of a.copy) (encode_of a.head) c.spend-w.ensures
    c.in_default.is (in_place a.volume.now (encode_of a.head) c.base.ensures.0 p.ensures
    (p.auto.sector ∙ c.encode-arg-1.given.2))
