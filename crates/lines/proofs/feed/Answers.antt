use Rattle.std.proofs.Common.{arith, rules, refl, take}
use Rattle.lines.specs.Program.{held}
use Rattle.lines.proofs.Streams.{fed_none, fed_more, fed_end, made_none, made_more, made_stopped, on_error}
use Rattle.lines.proofs.feed.Goals as goal

pub loop-at-init : goal.loop-at-init
loop-at-init g c =
    record {
      within = omega arith;
      few = omega (arith, c.requires.0);
      line = refl;
      out = refl;
      fed = fed_none _ _;
      made = made_none _ _;
    }

pub loop-at-preserved : goal.loop-at-preserved
loop-at-preserved g c =
    let l = c.loop-at in
    let p = c.piece-p.ensures in
    record {
      within = p.1;
      few = p.2;
      line = search rules;
      out = search rules;
      fed = fed_more _ _ _ (held l.volume l.fed.session (take l.fed.fill l.line)) c.args.bytes.now l.at c.piece-p.result c.piece-p.new.volume c.piece-p.new.line l.out l.invariant.fed p.0 c.in_ok-write_all.ensures.bytes;
      made = made_more (held l.volume l.fed.session (take l.fed.fill l.line)) c.args.bytes.now l.at c.piece-p.result c.piece-p.new.volume c.piece-p.new.line l.out l.invariant.made p.0;
    }

pub returns-clause-held_after : goal.returns-clause-held_after
returns-clause-held_after g c =
    let l = c.loop-at in
    ((fed_end _ _ (held l.volume l.fed.session (take l.fed.fill l.line)) c.args.bytes.now l.at (omega arith) l.invariant.fed).0, l.invariant.few)

pub returns-clause-written : goal.returns-clause-written
returns-clause-written g c =
    let l = c.loop-at in
    (fed_end _ _ (held l.volume l.fed.session (take l.fed.fill l.line)) c.args.bytes.now l.at (omega arith) l.invariant.fed).1

pub returns-in_err-write_all-clause-stopped : goal.returns-in_err-write_all-clause-stopped
returns-in_err-write_all-clause-stopped g c =
    let l = c.loop-at in
    on_error c.from_residual.result (made_stopped (made_more (held l.volume l.fed.session (take l.fed.fill l.line)) c.args.bytes.now l.at c.piece-p.result c.piece-p.new.volume c.piece-p.new.line l.out l.invariant.made c.piece-p.ensures.0))
