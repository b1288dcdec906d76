-- 01, "Directory entry": which entries `list` makes a row of. Assumes nothing.
use Rattle.std.specs.Prelude.{Bool, false, List, ℕ}
use Rattle.names.specs.Names.{in_dir}
use Rattle.layout.specs.Views.{Entry, vacant, broken, named}

-- a file in the directory
unfoldable pub listed_in : List ℕ → Entry → Bool
listed_in dir vacant = false
listed_in dir broken = false
listed_in dir (named n i) = in_dir dir n
