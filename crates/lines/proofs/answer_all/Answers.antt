use Rattle.std.proofs.Common.{ℕ, length, replicate, arith}
use Rattle.std.proofs.lemmas.List.{length-replicate}
use Rattle.lines.proofs.Streams.{printed_all, zeros_are}
use Rattle.lines.proofs.answer_all.Goals as goal

pub returns : goal.returns
returns g c =
    printed_all c.run.result (g.R.Read.remaining c.args.input.now) (g.W.Write.contents c.args.output.now) (g.W.Write.contents c.run.new.output) (replicate 65536 0)
    (length {A = ℕ} (replicate 4096 0)) (zeros_are 65536) (omega (arith, length-replicate {A = ℕ} 4096 0)) c.run.ensures
