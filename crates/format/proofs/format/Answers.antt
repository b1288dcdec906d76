use mathlib.Core.Path.{refl}
use Rattle.format.proofs.Ways.{wrong_size, unread, enough, whole}
use Rattle.format.proofs.format.Goals as goal

pub returns-then-not-sized : goal.returns-then-not-sized
returns-then-not-sized c = let a = c.args in wrong_size a.size a.seed a.volume.now a.medium (rw c.if-not-sized.true refl) c.refused.ensures

pub returns-in-Err : goal.returns-in-Err
returns-in-Err c =
    let a = c.args in
    unread a.size a.seed a.volume.now a.medium (rw c.if-not-sized.false refl) c.headers-c.ensures
    c.in-Err.is c.refused-in-Err.ensures

pub format_over-requires : goal.format_over-requires
format_over-requires c =
    let a = c.args in
    enough a.size a.seed a.volume.now a.medium (rw c.if-not-sized.false refl) c.headers-c.ensures
    c.in_default.is

pub returns : goal.returns
returns c =
    let a = c.args in
    whole a.size a.seed a.volume.now a.medium (rw c.if-not-sized.false refl) c.headers-c.ensures
    c.in_default.is c.format_over.ensures
