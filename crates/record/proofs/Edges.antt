-- The edges of a blank sector hold, by computing. Assumes nothing.
use mathlib.Core.Path.{◌≡◌, refl}
use mathlib.Core.Bool.{true}
use lib.ListN.{replicate}
use Rattle.le.specs.Choice.{pick}
use Rattle.runs.specs.Run.{starts_with, all_same}
use Rattle.record.specs.Record.{matches_of, is_blank, verdict_of}
use Rattle.record.specs.Edges.{Edges}
use Rattle.record.proofs.Verdicts.{verdict_blank}

zeros : is_blank (replicate 512 0) ≡ true
unfolding is_blank all_same
zeros = refl

erased : is_blank (replicate 512 255) ≡ true
unfolding is_blank all_same
erased = refl

pub edges : Edges
unfolding is_blank all_same starts_with matches_of verdict_of pick
edges =
    record {
      zeros = zeros;
      erased = erased;
      sevens = refl;
      zeros_first = refl;
      zeros_last = refl;
      erased_first = refl;
      erased_last = refl;
      judged_zeros = λ id file number. verdict_blank id file number (replicate 512 0) zeros;
      judged_erased = λ id file number. verdict_blank id file number (replicate 512 255) erased;
      judged_sevens = λ id file number. refl;
    }
