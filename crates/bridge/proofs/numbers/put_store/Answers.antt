use Rattle.bridge.proofs.numbers.put_store.Goals as goal

pub returns : goal.returns
returns c = (c.store_words.ensures, c.copy_from_slice.ensures.after)
