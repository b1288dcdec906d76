use mathlib.Core.Path.{refl}
use Prim.Native.Nat.{◌≤◌}
use lib.ListN.{length}
use borrow.Author.Rules.{rules}
use Rattle.le.specs.Part.{zeros}
use native.Mathlib.Omega.{arith}
use Rattle.firmware.proofs.Bounds.{made_few}
use Rattle.firmware.proofs.Ways.{dir_refused, list_unmounted, list_told_lem}
use Rattle.firmware.proofs.store_list.Goals as goal

pub returns-then-not-dir_ok : goal.returns-then-not-dir_ok
returns-then-not-dir_ok c =
    let a = c.args in
    let long : 3072 ≤ length a.rows.now = omega arith in
    dir_refused a.volume.now _ a.directory.now a.rows.now long c.dir_ok.ensures (rw c.if-not-dir_ok.true refl)
    c.number-then-not-dir_ok.ensures

pub returns-in-Err : goal.returns-in-Err
returns-in-Err c =
    let a = c.args in
    let long : 3072 ≤ length a.rows.now = omega arith in
    list_unmounted a.volume.now _ a.directory.now a.rows.now long c.dir_ok.ensures
    (rw c.if-not-dir_ok.false refl) c.medium_of.ensures c.mount-found.result c.mount-found.ensures
    c.in-Err.is c.number-in-Err.ensures

pub overflow_cast-l : goal.overflow_cast-l
overflow_cast-l c =
    let long : 3072 ≤ length c.args.rows.now = omega arith in
    let h = (let args = c.args in
    made_few args.volume.now _ _ args.directory.now _ args.rows.now long c.list-l.result c.list-l.ensures) in
    search (rules, h)

pub code-requires : goal.code-requires
code-requires c =
    let long : 3072 ≤ length c.args.rows.now = omega arith in
    λ _. let h = made_few
    c.args.volume.now _ _
    c.args.directory.now _
    c.args.rows.now
    long
    c.list-l.result c.list-l.ensures in
    omega (arith, h)

pub returns : goal.returns
unfolding zeros
returns c =
    let a = c.args in
    let long : 3072 ≤ length a.rows.now = omega arith in
    list_told_lem a.volume.now _ a.directory.now a.rows.now long c.dir_ok.ensures
    (rw c.if-not-dir_ok.false refl) c.medium_of.ensures c.mount-found.result
    c.mount-found.ensures c.in_default.is c.list-l.result c.list-l.ensures c.code.ensures
