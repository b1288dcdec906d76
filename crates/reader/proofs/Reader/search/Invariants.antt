use Rattle.std.specs.Prelude.{Ok}
use Rattle.walk.proofs.Laws.{At}
use Rattle.reader.specs.Next.{record_here, search_step, search_of}
use Rattle.reader.proofs.Reader.search.Given as goal

abbrev pub invariant-loop-index : goal.invariant-loop-index
invariant-loop-index l =
    At search_step (record_here l.volume l.medium l.store l.self) (λ s. Ok l.limit) l.limit (search_of l.volume l.medium l.store l.self l.after l.limit) l.index tt
