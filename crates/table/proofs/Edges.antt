-- 01's starred edge on links, computed from the definitions. Assumes nothing.
use Rattle.std.specs.Prelude.{Ok}
use mathlib.Core.Path.{◌≡◌, refl}
use mathlib.Core.Bool.{true}
use mathlib.Core.List.{List, [], ◌∷◌}
use Prim.Native.Nat.{ℕ}
use Rattle.le.specs.Choice.{pick}
use Rattle.le.specs.Part.{part}
use Rattle.le.specs.Field.{le_number, le_bytes, get_le}
use Rattle.table.specs.declared.Link.{Link}
use Rattle.table.specs.declared.LinkAt.TheVariants.{Linked}
use Rattle.table.specs.Link.{owner_of, place_of, link_bytes, link_fits, link_of, link_in}

-- slot 2, position 3, 5 records partial: bytes 83 02 03 80 hexadecimal
abbrev pub edge_link : Link
edge_link = record { slot = 2; position = 3; partial = true; records = 5 }

abbrev pub edge_bytes : List ℕ
edge_bytes = 0x83 ∷ 0x02 ∷ 0x03 ∷ 0x80 ∷ []

pub edge_written : link_bytes edge_link ≡ edge_bytes
unfolding link_bytes owner_of place_of le_bytes pick
edge_written = refl

pub edge_read : link_in edge_bytes true 512 ≡ Ok (Linked edge_link)
unfolding link_in link_of link_fits get_le le_number part pick
edge_read = refl
