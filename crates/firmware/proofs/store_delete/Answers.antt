use mathlib.Core.Path.{refl}
use lib.Dec.{lit≤}
use Rattle.firmware.proofs.Ways.{name_refused, delete_unmounted, delete_told_lem}
use Rattle.firmware.proofs.store_delete.Goals as goal

pub returns-then-not-name_ok : goal.returns-then-not-name_ok
returns-then-not-name_ok c =
    let a = c.args in
    name_refused a.volume.now _ a.name.now c.name_ok.ensures (rw c.if-not-name_ok.true refl) c.number.ensures

pub returns-in-Err : goal.returns-in-Err
returns-in-Err c =
    let a = c.args in
    delete_unmounted a.volume.now _ a.name.now c.name_ok.ensures (rw c.if-not-name_ok.false refl) c.medium_of.ensures
    c.mount-m.result c.mount-m.ensures c.in-Err.is c.number-in-Err.ensures

pub code-requires : goal.code-requires
code-requires c = λ _. lit≤ tt

pub returns : goal.returns
returns c =
    let a = c.args in
    delete_told_lem a.volume.now _ a.name.now c.name_ok.ensures (rw c.if-not-name_ok.false refl) c.medium_of.ensures
    c.mount-m.result c.mount-m.ensures c.in_default.is c.delete-d.result
    c.delete-d.ensures c.code.ensures
