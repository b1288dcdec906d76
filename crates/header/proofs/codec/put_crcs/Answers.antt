use borrow.Author.Rules.{rules}
use mathlib.Core.Path.{◌≡◌, ◌∙◌}
use native.Mathlib.Omega.{arith}
use lib.ListN.{length}
use Rattle.header.proofs.Words.{words_start, words_more}
use Rattle.header.proofs.codec.put_crcs.Goals as goal

pub loop-k-init : goal.loop-k-init
loop-k-init c = let a = c.args in (omega arith, words_start a.head.crcs a.sector.now, omega arith)

pub loop-k-preserved : goal.loop-k-preserved
loop-k-preserved c =
    let l = c.loop-k in
    let p = c.put_u32 in
    let n : length c.args.head.crcs ≡ 24 = search (rules, c.well_formed.0) in (
      omega arith,
      words_more c.args.head.crcs c.args.sector.now l.sector p.new.bytes l.k (omega arith) (omega arith) l.invariant.1 p.ensures,
      p.auto.bytes ∙ l.invariant.2,
    )

pub returns : goal.returns
returns c = let l = c.loop-k in let e : l.k ≡ c.args.n = omega arith in rw e at l.invariant.1
