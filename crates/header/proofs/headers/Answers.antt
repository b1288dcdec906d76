use borrow.Author.Tests.{lt-ltb, le-ltb}
use Rattle.le.specs.Choice.{pick}
use Rattle.le.proofs.Turns.{told}
use Rattle.medium.specs.Refusal.{on_done}
use Rattle.header.specs.Copies.{headers_of}
use Rattle.header.proofs.Ways.{Seen, foreign_a, unread_b, foreign_b, both}
use Rattle.header.proofs.headers.Goals as goal

pub returns-then-sectors-lt64 : goal.returns-then-sectors-lt64
unfolding headers_of pick
returns-then-sectors-lt64 c = rw (← c.sectors.ensures, lt-ltb _ _ c.if-sectors-lt64.true) c.no_copies.ensures

pub returns-in-Err : goal.returns-in-Err
unfolding headers_of pick on_done
returns-in-Err c =
    rw (
      ← c.sectors.ensures,
      le-ltb _ _ c.if-sectors-lt64.false,
      ← c.readable-ra.ensures,
      c.in-Err.is,
    ) c.no_copies-in-Err.ensures

pub returns-then-is_foreign : goal.returns-then-is_foreign
returns-then-is_foreign c =
    let seen : Seen c.args.volume.now c.args.medium c.copy_at-a.result c.is_foreign.result = record {
      enough = rw c.sectors.ensures at (le-ltb _ _ c.if-sectors-lt64.false);
      reads = told c.readable-ra.ensures c.in_default.is;
      copy = c.copy_at-a.ensures;
      foreign = c.is_foreign.ensures;
    } in
    foreign_a seen c.if-is_foreign.true c.no_copies-then-is_foreign.ensures

pub returns-in-Err-rb : goal.returns-in-Err-rb
returns-in-Err-rb c =
    let seen : Seen c.args.volume.now c.args.medium c.copy_at-a.result c.is_foreign.result = record {
      enough = rw c.sectors.ensures at (le-ltb _ _ c.if-sectors-lt64.false);
      reads = told c.readable-ra.ensures c.in_default.is;
      copy = c.copy_at-a.ensures;
      foreign = c.is_foreign.ensures;
    } in
    unread_b seen c.if-is_foreign.false c.readable-rb.ensures c.in-Err-rb.is
    c.no_copies-in-Err-rb.ensures

pub returns-then-is_foreign-2 : goal.returns-then-is_foreign-2
returns-then-is_foreign-2 c =
    let seen : Seen c.args.volume.now c.args.medium c.copy_at-a.result c.is_foreign.result = record {
      enough = rw c.sectors.ensures at (le-ltb _ _ c.if-sectors-lt64.false);
      reads = told c.readable-ra.ensures c.in_default.is;
      copy = c.copy_at-a.ensures;
      foreign = c.is_foreign.ensures;
    } in
    foreign_b seen c.if-is_foreign.false c.readable-rb.ensures
    c.in_default-rb.is c.copy_at-b.ensures c.is_foreign-2.ensures c.if-is_foreign-2.true
    c.no_copies-then-is_foreign-2.ensures

pub returns : goal.returns
returns c =
    let seen : Seen c.args.volume.now c.args.medium c.copy_at-a.result c.is_foreign.result = record {
      enough = rw c.sectors.ensures at (le-ltb _ _ c.if-sectors-lt64.false);
      reads = told c.readable-ra.ensures c.in_default.is;
      copy = c.copy_at-a.ensures;
      foreign = c.is_foreign.ensures;
    } in
    both seen c.if-is_foreign.false c.readable-rb.ensures
    c.in_default-rb.is c.copy_at-b.ensures c.is_foreign-2.ensures
    c.if-is_foreign-2.false
