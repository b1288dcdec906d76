use borrow.Author.Rules.{rules}
use Rattle.format.specs.Format.{chunks_of}
use Rattle.format.proofs.chunks_for.Goals as goal

pub returns-then-fit-lt2048 : goal.returns-then-fit-lt2048
unfolding chunks_of
returns-then-fit-lt2048 c = search rules

pub returns : goal.returns
unfolding chunks_of
returns c = search rules
