-- A free entry, and the entry of the file `a` with id 1. Assumes nothing.
use mathlib.Core.Path.{◌≡◌, refl}
use mathlib.Core.List.{[], ◌∷◌}
use Rattle.std.specs.Prelude.{None, Ok}
use Rattle.le.specs.Choice.{pick}
use Rattle.le.specs.Field.{le_number, le_bytes, get_le, put_le}
use Rattle.le.specs.Part.{part, over, zeros}
use Rattle.runs.specs.Run.{all_same}
use Rattle.runs.specs.Split.{longer, split_at}
use Rattle.names.specs.Names.{plain_byte, every_byte, none_empty, name_ok, text_len}
use Rattle.directory.specs.Entry.{entry_bytes, len_of, entry_ok, file_of, entry_of}

pub record Edges : Type 0 where
  pub free : entry_of (zeros 64) ≡ Ok None
  pub file : entry_of (entry_bytes (97 ∷ []) 1) ≡ file_of 1 1

pub edges : Edges
unfolding pick le_number le_bytes get_le put_le part over zeros all_same plain_byte every_byte longer split_at none_empty name_ok text_len entry_bytes len_of entry_ok entry_of
edges = record { free = refl; file = refl }
