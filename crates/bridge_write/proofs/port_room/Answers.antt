use Rattle.bridge_write.specs.Writing.{room_at}
use Rattle.bridge_write.proofs.port_room.Goals as goal

pub returns : goal.returns
unfolding room_at
returns c = rw (← c.appender_in-ap.ensures, ← c.room-n.ensures, c.room_code.ensures, c.room_words.ensures)
