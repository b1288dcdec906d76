use Rattle.bridge_write.proofs.appenders.put_appender.Goals as goal

pub returns : goal.returns
returns c = (c.appender_words.ensures, c.copy_from_slice.ensures.after, c.copy_from_slice-2.ensures.after)
