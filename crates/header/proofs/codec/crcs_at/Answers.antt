use mathlib.Core.Path.{◌≡◌, refl}
use native.Mathlib.Omega.{arith}
use lib.ListN.{length-set}
use Rattle.header.proofs.Words.{crcs_start, crcs_more}
use Rattle.header.proofs.codec.crcs_at.Goals as goal

pub loop-k-init : goal.loop-k-init
loop-k-init c = (omega arith, crcs_start c.args.sector.now, refl)

pub loop-k-preserved : goal.loop-k-preserved
loop-k-preserved c = let l = c.loop-k in let a = c.args in
    (omega arith, crcs_more a.sector.now l.crcs l.k c.get_u32.result (omega arith) l.invariant.1 c.get_u32.ensures, simp length-set l.invariant.2)

pub returns : goal.returns
returns c = let l = c.loop-k in let e : l.k ≡ c.args.n = omega arith in rw e at l.invariant.1
