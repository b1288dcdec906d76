use borrow.Author.Rules.{rules}
use mathlib.Core.Path.{◌≡◌}
use Prim.Native.Nat.{◌-◌, ◌^◌, ◌<◌}
use native.Mathlib.Omega.{arith}
use Rattle.commit.proofs.Steps.{made_of}
use Rattle.commit.proofs.Commits.{unfound, stale, spent, rewritten}
use Rattle.commit.proofs.commit.Goals as goal

pub returns-in-Err : goal.returns-in-Err
returns-in-Err c =
    let a = c.args in
    made_of c.refused.ensures
    (unfound a.edit a.name.now a.volume.now a.medium a.store c.current-found.ensures c.in-Err.is)

pub returns-then-not-is_current : goal.returns-then-not-is_current
returns-then-not-is_current c =
    let a = c.args in
    made_of c.refused-then-not-is_current.ensures (stale a.edit a.name.now a.volume.now a.medium a.store c.current-found.ensures
    c.in_default.is c.is_current.ensures c.if-not-is_current.true)

pub returns-then-own : goal.returns-then-own
returns-then-own c =
    let a = c.args in
    made_of c.refused-then-own.ensures (spent a.edit a.name.now a.volume.now a.medium a.store c.current-found.ensures
    c.in_default.is c.is_current.ensures c.if-not-is_current.false c.if-own.true)

pub rewrite-requires : goal.rewrite-requires
rewrite-requires c =
    let p = c.requires in
    let g : c.args.store.head.generation < 2 ^ 64 =
    search rules in
    let n : c.args.store.head.generation ≡ 2 ^ 64 - 1 → ⊥ =
    c.if-own.false in
    (p.0, omega arith, p.1, p.2, p.3)

pub returns : goal.returns
returns c =
    let a = c.args in
    rewritten a.edit a.name.now a.volume.now a.medium a.store c.current-found.ensures c.in_default.is
    c.is_current.ensures c.if-not-is_current.false c.if-own.false c.rewrite.ensures
