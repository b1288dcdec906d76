-- 01, "Header" and refusals 4 and 7: every body sector of the copy that a store value names reads and has the checksum that its header lists.
-- Assumes nothing.
use Rattle.std.specs.Prelude.{Ok}
use Rattle.std.specs.Prelude.{ℕ, ◌<◌, ◌≡◌, List}
use Rattle.medium.specs.declared.Medium.{Medium}
use Rattle.handles.specs.declared.Store.{Store}
use Rattle.handles.specs.Body.{check_of}
use Rattle.handles.specs.Handles.{body_of}

abbrev pub Checked : List ℕ → Medium → Store → Type 0
Checked vol m st = (k : ℕ) → k < body_of st.head.chunks → check_of vol m st k ≡ Ok tt
