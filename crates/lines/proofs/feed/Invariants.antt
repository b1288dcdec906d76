use Rattle.std.proofs.Common.{◌≡◌, ◌-◌, ◌≤◌, length, take, drop}
use Rattle.lines.specs.Program.{held, feed_of}
use Rattle.lines.proofs.Streams.{Fed, Made}
use Rattle.lines.proofs.feed.Given as goal

abbrev pub invariant-loop-at : goal.invariant-loop-at
invariant-loop-at g l =
    record {
      within : l.at ≤ length l.bytes;
      few : l.fed.fill ≤ 601;
      line : length l.line ≡ length l.fn.line;
      out : length l.out ≡ length l.fn.out;
      fed : Fed (g.W.Write.contents l.fn.output) (g.W.Write.contents l.output)
          (feed_of (held l.volume l.fed.session (take l.fed.fill l.line)) (drop l.at l.bytes))
          (feed_of (held l.fn.volume l.fn.session (take l.fn.fill l.fn.line)) l.bytes);
      made : Made (held l.fn.volume l.fn.session (take l.fn.fill l.fn.line)) (held l.volume l.fed.session (take l.fed.fill l.line)) l.bytes l.at;
    }

abbrev pub decreases-loop-at : goal.decreases-loop-at
decreases-loop-at g l = length l.bytes - l.at
