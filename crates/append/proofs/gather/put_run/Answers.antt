use Prim.Native.Nat.{◌+◌}
use mathlib.Core.Path.{◌≡◌}
use lib.ListN.{length}
use borrow.Author.Rules.{rules}
use mathlib.Core.Path.{ap}
use Rattle.commit.proofs.Steps.{made_of}
use Rattle.append.specs.Flush.{holding}
use Rattle.append.proofs.Runs.{put_kept, with_fit}
use Rattle.append.proofs.gather.put_run.Goals as goal

pub put_at-requires : goal.put_at-requires
put_at-requires c = c.requires.3

pub flush-requires : goal.flush-requires
flush-requires c =
    let a = c.args in
    let hx = ap (holding a.appender _) c.put_at.ensures in
    (c.requires.0, with_fit a.bytes.now a.appender a.store hx c.requires.1 c.requires.3)

pub returns : goal.returns
returns c =
    let a = c.args in
    let short : a.appender.fill + length a.bytes.now ≡ 486 → ⊥ = search rules in
    made_of c.finished.ensures (put_kept a.bytes.now a.volume.now a.medium a.store a.appender c.requires.1.full
    (ap (holding a.appender _) c.put_at.ensures) c.requires.3 short)
