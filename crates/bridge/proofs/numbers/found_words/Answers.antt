use Rattle.bridge.proofs.numbers.found_words.Goals as goal

pub returns-in-At : goal.returns-in-At
returns-in-At c = rw c.in-At.is
