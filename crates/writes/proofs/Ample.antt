-- As many writes left as a call makes at most are as good as any more: on every volume and with every handle, the call with d more left gives the same
-- volume, answer, handles and steps, and d more are left after it. So it is never refused for want of a write. Assumes nothing.
use Prim.Native.Nat.{ℕ, ◌+◌, ◌-◌, ◌/◌, ◌^◌, ◌≤◌}
use mathlib.Core.Path.{◌≡◌, refl}
use mathlib.Core.Bool.{Bool, ◌&&◌}
use mathlib.Core.List.{List}
use lib.Dec.{eqb, leb}
use lib.ListN.{length}
use Rattle.std.specs.Prelude.{Result, Ok, Err}
use Rattle.medium.specs.declared.Error.{Error}
use Rattle.le.specs.Choice.{pick}
use Rattle.medium.specs.declared.Error.TheVariants.{Range}
use Rattle.medium.specs.declared.Medium.{Medium}
use Rattle.medium.specs.Refusal.{on_done}
use Rattle.medium.specs.Sector.{sectors_of, read_of}
use Rattle.handles.specs.declared.Store.{Store}
use Rattle.handles.specs.Body.{check_of, due_of}
use Rattle.handles.specs.Handles.{no_store, open_file}
use Rattle.header.specs.declared.answers.Copies.{Copies}
use Rattle.header.specs.Copies.{headers_of}
use Rattle.directory.specs.declared.Found.{Found}
use Rattle.directory.specs.Entry.{slot_at}
use Rattle.directory.specs.Scan.{find_of, on_found, found_at}
use Rattle.plan.specs.Copy.{Kind, deleted, formatted, steps_of, refused_out}
use Rattle.format.specs.Format.{chunks_of, copy_for, newest_of, id_for, format_head, format_plan, format_over, format_of, made_of}
use Rattle.remove.specs.Remove.{remove_of}
use Rattle.append.specs.declared.Appender.{Appender}
use Rattle.append.specs.Flush.{AppOut}
use Rattle.append.specs.Calls.{AppCall, may_write, call_of, offered, append_call, sync_call}
use Rattle.store.specs.Asked.{asked_name, asked_dir, asked_of}
use Rattle.store.specs.Opening.{rollover_of, open_fine, opening, create_earlier, admitted_of, if_admitted, create_call}
use Rattle.store.specs.Writing.{WriteCall, write_call_of, format_call, delete_call, OldestCall, went_of, oldest_told, oldest_call}
use Rattle.writes.specs.Writes.{commit_most, create_most, records_most}
use Rattle.writes.specs.More.{more, write_more, oldest_more, app_more}
use Rattle.writes.proofs.Calls.{format_writes, delete_writes, oldest_writes, create_writes, append_writes, sync_writes, format_few, delete_few}
use Rattle.writes.proofs.Carries.{Holder, alone, Carries, still, given, either, unless, both, ample}
use Rattle.writes.proofs.CarriedCopies.{copied, copy_carries, remove_carries, oldest_carries}
use Rattle.writes.proofs.CarriedAppends.{handed, create_carries, append_carries, sync_carries}

-- ---- what they hand back

abbrev stored : Holder WriteCall
stored = record { held = λ w. w.call.medium; raised = write_more }

abbrev oldest_held : Holder OldestCall
oldest_held = record { held = λ o. o.call.medium; raised = oldest_more }

abbrev called : Holder AppCall
called = record { held = λ a. a.call.medium; raised = app_more }

module _ (d : ℕ) (vol : List ℕ) where
  told_carries : (kind : Kind) → Carries d copied stored (write_call_of kind)
  unfolding steps_of
  told_carries kind = still (λ o. refl) (λ o. refl)

  -- ---- format

  headers_same : (m : Medium) → headers_of vol (more d m) ≡ headers_of vol m
  unfolding headers_of read_of
  headers_same m = refl

  over_carries : (c : Copies) (size seed : ℕ) → Carries d alone copied (λ m. format_over c size seed vol m)
  unfolding format_over format_head id_for
  over_carries c size seed =
      let n : ℕ = chunks_of (sectors_of vol) size in
      either (eqb n 0) (still (λ m. refl) (λ m. refl))
      (either (eqb (newest_of c) (2 ^ 64 - 1)) (still (λ m. refl) (λ m. refl))
      (given (λ m. format_head c m n size seed) (λ h m. made_of (copy_for c) h vol m) (λ m. refl) (λ h. copy_carries d (format_plan (copy_for c) h) vol)))

  format_carries : (size seed : ℕ) → Carries d alone stored (λ m. format_call vol m size seed)
  unfolding format_call format_of
  format_carries size seed =
      both (write_call_of formatted)
      (given (λ m. headers_of vol m)
      (λ c m. pick (leb 1 size && leb size 512) (on_done c.outcome (format_over c size seed vol m) (refused_out no_store vol m)) (refused_out no_store vol m Range)) headers_same
      (λ c. either (leb 1 size && leb size 512) (unless c.outcome (over_carries c size seed) (λ e. still (λ m. refl) (λ m. refl))) (still (λ m. refl) (λ m. refl))))
      (told_carries formatted)

  module _ (st : Store) where
    -- ---- delete

    find_same : (name : List ℕ) (m : Medium) → find_of vol (more d m) st name ≡ find_of vol m st name
    unfolding find_of slot_at due_of check_of read_of
    find_same name m = refl

    found_carries : (f : Result Found Error) → Carries d alone copied (λ m. on_found f (refused_out st vol m) (remove_of vol m st))
    unfolding on_found
    found_carries (Err e) = still (λ m. refl) (λ m. refl)
    found_carries (Ok x) = remove_carries d vol st x.slot x.id

    delete_carries : (name : List ℕ) → Carries d alone stored (λ m. delete_call vol m st name)
    unfolding delete_call
    delete_carries name =
        both (write_call_of deleted)
        (unless (asked_name vol st name)
        (given (λ m. find_of vol m st name) (λ f m. on_found f (refused_out st vol m) (remove_of vol m st)) (find_same name) found_carries)
        (λ e. still (λ m. refl) (λ m. refl)))
        (told_carries deleted)

    -- ---- delete_oldest

    call_carries : (dir : List ℕ) → Carries d alone oldest_held (λ m. oldest_call vol m st dir)
    unfolding oldest_call oldest_told went_of
    call_carries dir =
        both oldest_told
        (unless (asked_dir vol st dir) (oldest_carries d vol st dir (open_file st.writer)) (λ e. still (λ m. refl) (λ m. refl)))
        (still (λ g. refl) (λ g. refl))

    -- ---- create, append, sync

    called_carries : Carries d handed called call_of
    called_carries = still (λ o. refl) (λ o. refl)

    earlier_carried : (name : List ℕ) (rolls : Bool) (dir : List ℕ) → Carries d alone called (λ m. create_earlier vol m st name rolls dir)
    unfolding create_earlier opening
    earlier_carried name rolls dir =
        both call_of
        (unless (asked_of vol st (open_fine name rolls dir)) (create_carries name (rollover_of rolls dir) 2 vol st) (λ e. still (λ m. refl) (λ m. refl)))
        called_carries

    -- where its input is admitted, 01's
    create_carried : (name : List ℕ) (rolls : Bool) (dir : List ℕ) → Carries d alone called (λ m. create_call vol m st name rolls dir)
    unfolding create_call if_admitted
    create_carried name rolls dir = unless (admitted_of vol st name rolls dir) (earlier_carried name rolls dir) (λ e. still (λ m. refl) (λ m. refl))

    -- an appender's call, whatever its work
    offered_carries : (a : Appender) {work : Medium → AppOut} → Carries d alone handed work → Carries d alone called (λ m. offered vol m st a (work m))
    unfolding offered
    offered_carries a p = unless (may_write vol st a) (both call_of p called_carries) (λ e. still (λ m. refl) (λ m. refl))

    append_carried : (a : Appender) (bytes : List ℕ) → Carries d alone called (λ m. append_call vol m st a bytes)
    unfolding append_call
    append_carried a bytes = offered_carries a (append_carries bytes vol st a)

    sync_carried : (a : Appender) → Carries d alone called (λ m. sync_call vol m st a)
    unfolding sync_call
    sync_carried a = offered_carries a (sync_carries vol st a)

-- ---- the calls

module _ (vol : List ℕ) (m : Medium) (d : ℕ) where
  pub format_ample : (size seed : ℕ) → commit_most (chunks_of (sectors_of vol) size) ≤ m.left
      → format_call vol (more d m) size seed ≡ write_more d (format_call vol m size seed)
  format_ample size seed = ample _ m (format_carries d vol size seed) (format_writes vol (more d m) size seed)

  pub delete_ample : (st : Store) (name : List ℕ) → commit_most st.head.chunks ≤ m.left → delete_call vol (more d m) st name ≡ write_more d (delete_call vol m st name)
  delete_ample st name = ample _ m (delete_carries d vol st name) (delete_writes vol (more d m) st name)

  pub oldest_ample : (st : Store) (dir : List ℕ) → commit_most st.head.chunks ≤ m.left → oldest_call vol (more d m) st dir ≡ oldest_more d (oldest_call vol m st dir)
  oldest_ample st dir = ample _ m (call_carries d vol st dir) (oldest_writes vol (more d m) st dir)

  module _ (st : Store) (count : length st.head.crcs ≡ 24) where
    abbrev chunks : ℕ
    chunks = st.head.chunks

    pub create_ample : (name : List ℕ) (rolls : Bool) (dir : List ℕ) → create_most rolls chunks ≤ m.left
        → create_call vol (more d m) st name rolls dir ≡ app_more d (create_call vol m st name rolls dir)
    create_ample name rolls dir = ample _ m (create_carried d vol st name rolls dir) (create_writes vol (more d m) st count name rolls dir)

    module _ (a : Appender) (full : length a.buffer ≡ 486) where
      pub append_ample : (bytes : List ℕ) → records_most a.rolls chunks ((a.fill + length bytes) / 486) ≤ m.left
          → append_call vol (more d m) st a bytes ≡ app_more d (append_call vol m st a bytes)
      append_ample bytes = ample _ m (append_carried d vol st a bytes) (append_writes vol (more d m) st count a full bytes)

      pub sync_ample : records_most a.rolls chunks (pick (eqb a.fill 0) 0 1) ≤ m.left → sync_call vol (more d m) st a ≡ app_more d (sync_call vol m st a)
      sync_ample = ample _ m (sync_carried d vol st a) (sync_writes vol (more d m) st count a full)

  -- in numbers: a store has at most 16 table sectors
  pub format_enough : (size seed : ℕ) → 26 ≤ m.left → format_call vol (more d m) size seed ≡ write_more d (format_call vol m size seed)
  format_enough size seed = ample 26 m (format_carries d vol size seed) (format_few vol (more d m) size seed)

  pub delete_enough : (st : Store) (name : List ℕ) → 26 ≤ m.left → delete_call vol (more d m) st name ≡ write_more d (delete_call vol m st name)
  delete_enough st name = ample 26 m (delete_carries d vol st name) (delete_few vol (more d m) st name)
