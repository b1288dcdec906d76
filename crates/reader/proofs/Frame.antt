-- What a reader gives goes by the volume's length, by the table of its store value and by the data sectors: volumes that agree there give the same.
-- Assumes nothing.
use Rattle.std.specs.Prelude.{Result, Ok, Err, None}
use Rattle.medium.specs.declared.Error.{Error}
use mathlib.Core.Path.{◌≡◌, refl, ap}
use mathlib.Core.List.{List}
use Prim.Native.Nat.{ℕ, ◌+◌, ◌-◌, ◌*◌, ◌/◌, ◌%◌, ◌<◌, ◌≤◌}
use native.Mathlib.Omega.{arith}
use lib.ListN.{length}
use Rattle.le.proofs.Tallies.{tally_ext}
use Rattle.walk.specs.Walk.{Visit, walk, visits}
use Rattle.walk.proofs.Laws.{walk_alike}
use Rattle.medium.specs.declared.Error.TheVariants.{Corrupt}
use Rattle.medium.specs.declared.Medium.{Medium}
use Rattle.medium.specs.Sector.{sector_at}
use Rattle.handles.specs.declared.Store.{Store}
use Rattle.handles.specs.Handles.{table_of}
use Rattle.handles.specs.Body.{body_at}
use Rattle.table.specs.Table.{locate_v, locate_of}
use Rattle.table.proofs.Walks.{table_frame}
use Rattle.record.specs.Record.{is_blank, data_at, read_record_of, record_at}
use Rattle.reader.specs.declared.Reader.{Reader}
use Rattle.reader.specs.declared.Found.{Found}
use Rattle.reader.specs.declared.Found.TheVariants as found
use Rattle.reader.specs.declared.Next.TheVariants.{Hole}
use Rattle.reader.specs.Blank.{blank_at, blanks_of, counted_of}
use Rattle.reader.specs.Reader.{enter_of, seek_of}
use Rattle.reader.specs.Calls.{usable_of, next_call, seek_call}
use Rattle.reader.specs.Next.{limit_of, arrive_step, arrive_of, record_here, search_step, search_of, hole_of, take_of, next_of}

-- steps that agree everywhere give the same walk, also one that begins past its end, as that of a reader that no call gave
walk_same : {S R : Type 0} (f g : ℕ → S → Visit S R) (done : S → R) → ((k : ℕ) (t : S) → f k t ≡ g k t) → (count i : ℕ) (s : S) → walk f done count i s ≡ walk g done count i s
walk_same f g done agree count i s =
    let e : i + count - i ≡ count = omega arith in
    rw e at (walk_alike f g done (i + count) (λ k t _. agree k t) i s (omega arith))

module _ (vol v : List ℕ) (m : Medium) (st : Store) (size : length v ≡ length vol)
    (links : (t : ℕ) → t < table_of st.head.chunks → sector_at v (body_at st (8 + t)) ≡ sector_at vol (body_at st (8 + t)))
    (records : (j : ℕ) → 64 ≤ j → sector_at v j ≡ sector_at vol j) where
  entered : (rd : Reader) (position index : ℕ) → enter_of v m st rd position index ≡ enter_of vol m st rd position index
  unfolding enter_of locate_of
  entered rd position index = rw (table_frame v vol m st links (locate_v rd.slot position) None)

  arriving : (k : ℕ) (rd : Reader) → arrive_step v m st k rd ≡ arrive_step vol m st k rd
  unfolding arrive_step
  arriving k rd = rw (entered rd (k + 1) 0)

  arrived : (rd : Reader) → arrive_of v m st rd ≡ arrive_of vol m st rd
  unfolding arrive_of
  arrived rd = walk_same _ _ _ arriving (rd.chunks - rd.position) rd.position rd

  held : (chunk index : ℕ) → sector_at v (data_at st chunk index) ≡ sector_at vol (data_at st chunk index)
  unfolding data_at
  held chunk index = records (64 + chunk * st.head.chunk + index) (omega arith)

  judged : (rd : Reader) (i : ℕ) → record_here v m st rd i ≡ record_here vol m st rd i
  unfolding record_here record_at read_record_of
  judged rd i = rw (held rd.chunk i)

  sought : (rd : Reader) (after limit : ℕ) → search_of v m st rd after limit ≡ search_of vol m st rd after limit
  unfolding search_of visits
  sought rd after limit = walk_same _ _ _ (λ k t. ap (search_step k t) (judged rd k)) (limit - after) after tt

  took : (rd : Reader) (out : List ℕ) → take_of v m st rd out ≡ take_of vol m st rd out
  unfolding take_of hole_of
  took rd out = rw (judged rd rd.index, held rd.chunk rd.index, sought rd (rd.index + 1) (limit_of rd.end st.head.chunk))

  counted : (rd : Reader) (x : Result Found Error) → counted_of v st rd x ≡ counted_of vol st rd x
  unfolding counted_of blanks_of blank_at
  counted rd (Err e) = refl
  counted rd (Ok (found.Payload n)) = refl
  counted rd (Ok (found.Hole from to)) = ap (λ (k : ℕ). Ok (Hole from to k)) (tally_ext _ _ (to - from) (λ i _. ap is_blank (held rd.chunk ((from + i) % st.head.chunk))))
  counted rd (Ok found.End) = refl

  pub next_frame : (rd : Reader) (out : List ℕ) → next_call v m st rd out ≡ next_call vol m st rd out
  unfolding next_call next_of usable_of
  next_frame rd out = rw (size, arrived rd, took (arrive_of vol m st rd).reader out, counted)

  pub seek_frame : (rd : Reader) (number : ℕ) → seek_call v m st rd number ≡ seek_call vol m st rd number
  unfolding seek_call seek_of usable_of
  seek_frame rd number = rw (size, entered rd (number / st.head.chunk) (number % st.head.chunk))
