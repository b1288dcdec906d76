use Rattle.std.proofs.Common.{[], length, take, refl, ap, arith, rules}
use Rattle.session.specs.declared.Session.{Session}
use Rattle.session.specs.Session.{start_of}
use Rattle.lines.specs.Program.{held}
use Rattle.lines.proofs.Streams.{ran_first, ran_more, ran_done, Through, through_end, through_turns}
use Rattle.lines.proofs.run.Goals.{else-loop-test, then-loop-test+in_ok-n+then-n-eq0}
use Rattle.lines.proofs.run.Goals as goal

pub loop-init : goal.loop-init
loop-init g c =
    let vol = c.args.volume.now in
    record {
      few = omega arith;
      line = refl;
      out = refl;
      size = refl;
      ran =
          ran_first (g.R.Read.remaining c.args.input.now) (g.W.Write.contents c.args.output.now) (held vol start_of []) (held vol c.start-session.result [])
          (ap (λ (s : Session). held vol s []) c.start-session.ensures);
    }

pub loop-preserved : goal.loop-preserved
loop-preserved g c =
    let l = c.loop in
    record {
      few = c.in_ok-fed.ensures.held_after.1;
      line = search rules;
      out = search rules;
      size = search rules;
      ran =
          ran_more (g.R.Read.remaining c.args.input.now) (g.R.Read.remaining l.input) (g.R.Read.remaining c.read_some.new.input) (g.W.Write.contents c.args.output.now)
          (g.W.Write.contents l.output) (g.W.Write.contents c.feed.new.output) (held c.args.volume.now start_of []) (held l.volume l.session (take l.fill l.line))
          (held c.feed.new.volume c.in_ok-fed.fed.session (take c.in_ok-fed.fed.fill c.feed.new.line)) c.in_ok-n.n c.read_some.new.bytes l.counter
          l.invariant.ran c.if-n-eq0.false c.in_ok-n.ensures.within c.in_ok-n.ensures.taken.0 c.in_ok-fed.ensures.held_after.0 c.in_ok-fed.ensures.written;
    }

pub returns : goal.returns
returns g c =
    let l = c.loop in
    let given = g.R.Read.remaining c.args.input.now in
    let first = held c.args.volume.now start_of [] in
    let now = held l.volume l.session (take l.fill l.line) in
    let old = g.W.Write.contents c.args.output.now in
    let size = length c.args.bytes.now in
    let through : Through given old (g.W.Write.contents l.output) first now size =
    elim c.loop-test.branch [
      | else-loop-test w ↦ through_turns given (g.R.Read.remaining l.input) old (g.W.Write.contents l.output) first now l.counter size l.invariant.ran w.loop-test.false
      | then-loop-test+in_ok-n+then-n-eq0 w ↦
          through_end given (g.R.Read.remaining l.input) (g.R.Read.remaining w.read_some.new.input) old (g.W.Write.contents l.output) first now w.in_ok-n.n w.read_some.new.bytes l.counter size
          l.invariant.ran w.if-n-eq0.true w.in_ok-n.ensures.within w.in_ok-n.ensures.taken.0 (λ none some. w.in_ok-n.ensures.taken.1 none (omega (arith, w.bytes-is, some, l.invariant.size)))
    ] in
    ran_done c.write_all.result given old (g.W.Write.contents l.output) (g.W.Write.contents c.write_all.new.self) c.args.volume.now now size l.out c.last-count.new.out c.last-count.result
    through c.last-count.ensures.0 c.write_all.ensures.bytes
