use Rattle.bridge.proofs.numbers.next_words.Goals as goal

pub returns-in-Ok-Payload : goal.returns-in-Ok-Payload
returns-in-Ok-Payload c = rw (c.in-Ok-Payload.is, rw c.in-Ok-Payload.is at c.in-Ok-Payload.field-0-is)

pub returns-in-Ok-Hole : goal.returns-in-Ok-Hole
returns-in-Ok-Hole c = rw (c.in-Ok-Hole.is, rw c.in-Ok-Hole.is at c.in-Ok-Hole.field-0-is)
