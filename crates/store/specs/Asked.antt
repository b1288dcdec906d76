-- 01, "Refused because of the input": 3 on the store value, then 1 on a name or a directory. Assumes nothing.
use Rattle.std.specs.Prelude.{Err, Ok, Result}
use Rattle.medium.specs.declared.Error.{Error}
use Rattle.std.specs.Prelude.{ℕ, Bool, List}
use Rattle.le.specs.Choice.{pick}
use Rattle.names.specs.Names.{name_ok, dir_ok}
use Rattle.medium.specs.declared.Error.TheVariants.{Name, Handle}
use Rattle.medium.specs.Sector.{sectors_of}
use Rattle.handles.specs.declared.Store.{Store}
use Rattle.handles.specs.Handles.{store_ok}

-- a store value, and a test that its name or directory must pass
unfoldable pub asked_of : List ℕ → Store → Bool → Result Unit Error
asked_of vol st fine = pick (store_ok st (sectors_of vol)) (pick fine (Ok tt) (Err Name)) (Err Handle)

abbrev pub asked_name : List ℕ → Store → List ℕ → Result Unit Error
asked_name vol st name = asked_of vol st (name_ok name)

abbrev pub asked_dir : List ℕ → Store → List ℕ → Result Unit Error
asked_dir vol st dir = asked_of vol st (dir_ok dir)
