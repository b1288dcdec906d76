use Rattle.std.proofs.Common.{◌≡◌, ◌≤◌, [], length, take}
use Rattle.session.specs.Session.{start_of}
use Rattle.lines.specs.Program.{held}
use Rattle.lines.proofs.Streams.{Ran}
use Rattle.lines.proofs.run.Given as goal

abbrev pub invariant-loop : goal.invariant-loop
invariant-loop g l =
    record {
      few : l.fill ≤ 601;
      line : length l.line ≡ length l.fn.line;
      out : length l.out ≡ length l.fn.out;
      size : length l.bytes ≡ length l.fn.bytes;
      ran : Ran (g.R.Read.remaining l.fn.input) (g.R.Read.remaining l.input) (g.W.Write.contents l.fn.output) (g.W.Write.contents l.output)
          (held l.fn.volume start_of []) (held l.volume l.session (take l.fill l.line)) l.counter;
    }
