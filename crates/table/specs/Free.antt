-- 02, S-3: The next chunk comes from the map's words at and after the cursor, and the free count from counting ones. The map's answer is used only when
-- all table sectors pass their checksums. Where the map is unfit the walk is used. And the map that mount makes of the table: where a sector can't be
-- read, or its checksum or a link fails, it is unfit. Assumes nothing.
use Rattle.std.specs.Prelude.{ℕ, ◌+◌, true, List, ltb, Option, Result, Ok, Err}
use Rattle.std.specs.Bool.{then_some}
use Rattle.le.specs.Choice.{pick}
use Rattle.le.specs.Part.{zeros}
use Rattle.medium.specs.declared.Error.{Error}
use Rattle.medium.specs.declared.Medium.{Medium}
use Rattle.medium.specs.Refusal.{on_done}
use Rattle.freemap.specs.declared.FreeMap.{FreeMap}
use Rattle.freemap.specs.Map.{put_of, chosen_of, ones_of, unfit_of}
use Rattle.handles.specs.declared.Store.{Store}
use Rattle.handles.specs.Body.{check_of}
use Rattle.handles.specs.Handles.{table_of}
use Rattle.walk.specs.Walk.{Visit, next, stop, visits}
use Rattle.table.specs.Table.{TableVisit, over_table, walk_free_of}

-- all sectors of the table, read and checked in order: the first refusal, if there is one
abbrev pub on_check : Result Unit Error → Visit Unit (Result Unit Error)
on_check (Ok tt) = next tt
on_check (Err e) = stop (Err e)

unfoldable pub checked_of : List ℕ → Medium → Store → Result Unit Error
checked_of vol m st = visits (λ t s. on_check) (λ t. check_of vol m st (8 + t)) (λ s. Ok tt) (table_of st.head.chunks) 0 tt

-- the chunk of a bit; 2,048 stands for none
unfoldable pub pick_of : ℕ → Option ℕ
pick_of c = then_some (ltb c 2048) c

-- the free chunk taken: the first that the map marks at or after the cursor, going round; with an unfit map, the walk's
unfoldable pub free_of : List ℕ → Medium → Store → Result (Option ℕ) Error
free_of vol m st =
    pick st.free.fit (on_done (checked_of vol m st) (Ok (pick_of (chosen_of st.free.words st.head.cursor))) Err) (walk_free_of vol m st)

-- the free chunks of a walk, and the free count: as many as the map marks; with an unfit map, as many as the walk meets
abbrev pub free_count_v : TableVisit ℕ (Result ℕ Error)
free_count_v = record { refuse = λ e n. Err e; free = λ i n. n + 1; linked = λ i l n. n; done = Ok }

unfoldable pub walk_count_of : List ℕ → Medium → Store → Result ℕ Error
walk_count_of vol m st = over_table free_count_v vol m st 0

unfoldable pub free_count_of : List ℕ → Medium → Store → Result ℕ Error
free_count_of vol m st = pick st.free.fit (on_done (checked_of vol m st) (Ok (ones_of st.free.words)) Err) (walk_count_of vol m st)

-- the map of the table: the bit of each free chunk put; at a refusal unfit
abbrev pub map_v : TableVisit (List ℕ) FreeMap
map_v = record { refuse = λ e ws. unfit_of; free = λ i ws. put_of ws i true; linked = λ i l ws. ws; done = λ ws. record { fit = true; words = ws } }

unfoldable pub map_at : List ℕ → Medium → Store → FreeMap
map_at vol m st = over_table map_v vol m st (zeros 32)
